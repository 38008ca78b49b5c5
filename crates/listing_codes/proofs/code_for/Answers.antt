-- `listing_codes::code_for` meets its contract: what is left to search has the first. Assumes nothing.
use mathlib.Core.Path.{◌≡◌, sym, ap, ◌∙◌}
use native.Mathlib.Omega.{arith}
use Rattle.listing_codes.proofs.Laws.{searched, code_searched, code_hit, code_more, code_none}
use Rattle.listing_codes.proofs.code_for.Goals as goal

pub returns-then-keys-op : goal.returns-then-keys-op
returns-then-keys-op c =
    let i = c.loop-op.op in
    let k = c.key-wanted in
    let t = c.loop-op-test.true in
    let found = code_hit k.result i t (sym (c.requires.1 i t) ∙ c.if-keys-op.true) in
    sym (code_searched _ _ k.ensures.1) ∙ ap (λ w. searched w 0) (sym k.ensures.0) ∙ c.loop-op.invariant ∙ found

pub loop-op-preserved : goal.loop-op-preserved
loop-op-preserved c =
    let i = c.loop-op.op in
    let t = c.loop-op-test.true in
    c.loop-op.invariant ∙ code_more c.key-wanted.result i t (λ e. c.if-keys-op.false (c.requires.1 i t ∙ e))

pub returns : goal.returns
returns c =
    let k = c.key-wanted in
    let none = code_none k.result c.loop-op.op c.loop-op-test.false in
    let end : c.loop-op.op ≡ 256 = omega arith in
    sym (code_searched _ _ k.ensures.1) ∙ ap (λ w. searched w 0) (sym k.ensures.0) ∙ c.loop-op.invariant ∙ none ∙ end
