use Rattle.std.proofs.Common.{◌≡◌, List, ℕ, ap, ◌∙◌, subst}
use Rattle.zb_volume.specs.declared.areas.Area.{Area}
use Rattle.zb_volume.specs.declared.areas.Area.TheVariants.{Main, Side, Hint}
use Rattle.zb_volume.specs.Calls.{Call}
use Rattle.zb_volume.specs.Disk.{disk}
use Rattle.zb_volume.specs.Images.{CrashLeaves}
use Rattle.zb_volume.specs.Kept.{MemoryState, calls_of, log_of}
use Rattle.zb_volume.specs.Replays.{image_of}
use Rattle.zb_volume.proofs.Extremes.{held}
use Rattle.zb_volume.proofs.memory.MemoryVolume.image.Goals as goal
use Rattle.zb_volume.proofs.memory.MemoryVolume.image.Goals.{After-drop-areas-10}

-- the calls that were made again are those that contracts see
same : (c : After-drop-areas-10) → calls_of c.deref.result.now ≡ c.args.self.now.done
same c = ap calls_of c.deref.ensures.value ∙ ap (λ (m : MemoryState). m.done) c.self.view_is

pub returns-clause-content : goal.returns-clause-content
returns-clause-content c =
    let P = λ (calls : List Call) (a : Area) (image : List ℕ). image ≡ image_of c.args.all (disk (log_of calls) a) in
    let areas = c.in_ok-areas.ensures in
    held c.in_ok-main.main.items c.in_ok-side.side.items c.in_ok-hint.hint.items c.in_ok-image.image.done (ap (λ (m : MemoryState). m.done) c.in_ok-image.ensures) (P c.args.self.now.done)
    (subst (λ (l : List Call). P l Main c.in_ok-main.main.items) (same c) (c.in_ok-main.ensures.content _ (areas Main)))
    (subst (λ (l : List Call). P l Side c.in_ok-side.side.items) (same c) (c.in_ok-side.ensures.content _ (areas Side)))
    (subst (λ (l : List Call). P l Hint c.in_ok-hint.hint.items) (same c) (c.in_ok-hint.ensures.content _ (areas Hint)))

pub returns-clause-possible : goal.returns-clause-possible
returns-clause-possible c =
    let areas = c.in_ok-areas.ensures in
    held c.in_ok-main.main.items c.in_ok-side.side.items c.in_ok-hint.hint.items c.in_ok-image.image.done (ap (λ (m : MemoryState). m.done) c.in_ok-image.ensures) (CrashLeaves (log_of c.args.self.now.done))
    (subst (λ (l : List Call). CrashLeaves (log_of l) Main c.in_ok-main.main.items) (same c) (c.in_ok-main.ensures.possible _ (areas Main)))
    (subst (λ (l : List Call). CrashLeaves (log_of l) Side c.in_ok-side.side.items) (same c) (c.in_ok-side.ensures.possible _ (areas Side)))
    (subst (λ (l : List Call). CrashLeaves (log_of l) Hint c.in_ok-hint.hint.items) (same c) (c.in_ok-hint.ensures.possible _ (areas Hint)))
