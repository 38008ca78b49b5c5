-- `night_slices::run_night` meets its contract: the slices, one after another. Assumes nothing.
use Rattle.std.proofs.Common.{◌≡◌, ◌≤◌, length}
use Rattle.boundary.specs.World.{lending}
use Rattle.night_slices.specs.Slices.{standing, slices_of}
use Rattle.night_slices.proofs.run_night.Given as goal

abbrev pub invariant-loop-night : goal.invariant-loop-night
invariant-loop-night g l =
    (slices_of (standing l.initial.night (lending l.initial.image l.initial.area l.initial.output l.initial.log) l.initial.session)
    ≡ slices_of (standing l.night (lending l.image l.area l.output l.log) l.session))
    × (length l.image ≡ length l.initial.image) × (length l.area ≡ length l.initial.area) × (length l.session ≡ length l.initial.session)
    × (length l.output ≡ length l.initial.output) × (length l.log ≡ length l.initial.log) × (length l.spare ≡ length l.initial.spare)
    × (l.night.length ≤ length l.session) × (l.night.length ≤ length l.spare) × (l.night.sent ≤ length l.output) × (l.night.logged ≤ length l.log)

abbrev pub decreases-loop-night : goal.decreases-loop-night
decreases-loop-night g l = l.night.left
