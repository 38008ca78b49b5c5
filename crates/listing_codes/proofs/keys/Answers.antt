-- `listing_codes::keys` meets its contract: each turn tells one key more. Assumes nothing.
use native.Mathlib.Omega.{arith}
use mathlib.Core.Path.{◌∙◌}
use lib.ListN.{length-set}
use Rattle.listing_codes.proofs.Laws.{key_at_lem, keys_more}
use Rattle.listing_codes.proofs.keys.Goals as goal

pub loop-op-preserved : goal.loop-op-preserved
loop-op-preserved c =
    let l = c.loop-op in
    let t = c.loop-op-test.true in
    let n = l.invariant.0 in
    let e = key_at_lem l.op _ _ c.decode.ensures c.decoded_key.ensures in
    (length-set l.keys _ _ ∙ n, keys_more l.keys _ _ (omega arith) l.invariant.1 e)
