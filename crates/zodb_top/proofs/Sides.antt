-- Side is as it was.
use Rattle.std.proofs.Common.{◌≡◌, ℕ, false, List, [], Option, sym, subst}
use Rattle.std.specs.Prelude.{IfSome, ◌≢◌}
use Rattle.zb_model.specs.StayLaws.{stays_then}
use Rattle.zb_volume.specs.declared.areas.Area.TheVariants.{Side}
use Rattle.zb_volume.specs.Calls.{Event}
use Rattle.zb_volume.specs.Moments.{StaysAs}
use Rattle.zb_script.specs.declared.line.Turn.{Turn}
use Rattle.zodb_top.specs.Opened.{IsLeft}
use Rattle.zodb_top.specs.Outside.{Outside, main_of}
use Rattle.zodb_top.specs.Program.{IsInput, PacksNothing}
use Rattle.script_runs.specs.Outcomes.{has_pack}

-- over a file that was opened, and whose volume is then taken back
pub over_file : (before opened ran after : List Event) → StaysAs Side before opened → StaysAs Side opened ran → after ≡ ran → StaysAs Side before after
over_file before opened ran after first second ends = subst (λ (log : List Event). StaysAs Side before log) (sym ends) (stays_then Side before opened ran first second)

-- as a command leaves it that asks
pub left_side : (told : Type 0) (before after : Outside) → IsLeft told before after → told → main_of before ≢ [] → StaysAs Side before.log after.log
left_side told before after left is some = left.side is some

-- a script that was read whole, and packs nothing
pub packs_none : (left : Option (List ℕ)) (all : List ℕ) (turns : List Turn) → IfSome left (λ input. all ≡ input) → IsInput all turns → PacksNothing left → has_pack turns ≡ false
packs_none left all turns whole is nothing =
    let same : all ≡ nothing.input = subst (λ (o : Option (List ℕ)). IfSome o (λ input. all ≡ input)) nothing.told whole in
    nothing.none turns (subst (λ (input : List ℕ). IsInput input turns) same is)
