-- Lines of a script that is made, which don't pack before the hundredth round.
use Rattle.std.proofs.Common.{◌≡◌, ℕ, zero, suc, ◌+◌, ◌%◌, ◌<◌, ◌≤◌, Bool, true, false, List, [], ◌∷◌, ◌++◌, Some, codes, take, refl, ap, subst, arith}
use Rattle.std.specs.Prelude.{bytes_eq}
use Rattle.std.specs.List.{AllByRecursion}
use Rattle.std.proofs.lemmas.Bool.Decides.{nat_tests}
use Rattle.zb_script.specs.declared.line.Line.{Line}
use Rattle.zb_script.specs.declared.line.Line.TheVariants as line
use Rattle.zb_script.specs.Spelling.{IsLine, IsLineText}
use Rattle.client_turns.specs.Refusing.{IsFittingLine}
use Rattle.client_turns.specs.Standing.{packs_list}
use Rattle.gen_script.specs.declared.line.GenLine.{GenLine}
use Rattle.gen_script.specs.declared.turns.GenTurn.{GenTurn}
use Rattle.gen_script.specs.Left.{GivesNext}
use Rattle.gen_script.specs.Script.{drawn, gen_lines, is_hundredth, next, pack_behind, round, rounds, setup, turns_of}

-- a text begins as those of the lines that pack
abbrev packs_text : List ℕ → Bool
packs_text text = bytes_eq (take 4 text) (codes "pack")

line_text : (text : List ℕ) (l : Line) → IsLineText text l → packs_list l ≡ true → packs_text text ≡ true
line_text text (line.Pack tid collect) says packs = ap packs_text says.is
line_text text (line.PackBegin tid collect) says packs = ap packs_text says.is
line_text text line.PackTurn says packs = ap packs_text says
line_text text _ says packs = absurd cc

-- a line says no such one
abbrev pub PacksNot : GenLine → Type 0
PacksNot l = packs_text l.text ≡ false

never : (b : Bool) → b ≡ true → b ≡ false → ⊥
never true is other = cc
never false is other = cc

by_bool : (b : Bool) → (b ≡ true → ⊥) → b ≡ false
by_bool true never = absurd (never refl)
by_bool false never = refl

pub packs_not : (text : List ℕ) (l : Line) → packs_text text ≡ false → IsLineText text l → packs_list l ≡ false
packs_not text l other says = by_bool (packs_list l) (λ packs. never (packs_text text) (line_text text l says packs) other)

-- ---- all of them

both : (a b : List GenLine) → AllByRecursion PacksNot a → AllByRecursion PacksNot b → AllByRecursion PacksNot (a ++ b)
both [] b first second = second
both (l ∷ a) b first second = (first.0, both a b first.1 second)

turns_so : (i j u v k : ℕ) → AllByRecursion PacksNot (turns_of i j u v k)
turns_so i j u v k = (refl, (refl, (refl, (refl, (refl, (refl, (refl, (refl, (refl, (refl, (refl, (refl, tt))))))))))))

setup_so : AllByRecursion PacksNot setup
setup_so = (refl, (refl, (refl, (refl, (refl, (refl, (refl, (refl, (refl, (refl, tt))))))))))

none_behind : (b : Bool) → b ≡ false → AllByRecursion PacksNot (pack_behind b)
none_behind true is = absurd cc
none_behind false is = tt

early : (k : ℕ) → 1 ≤ k → k < 100 → is_hundredth k ≡ false
early k first last = grind (arith, nat_tests)

rounds_so : (count k x : ℕ) → 1 ≤ k → count + k ≤ 100 → AllByRecursion PacksNot (rounds count k x)
rounds_so zero k x first last = tt
rounds_so (suc count) k x first last =
    both (round k x) (rounds count (k + 1) (next (next x)))
    (both (turns_of (k % 4) ((k + 1) % 4) (drawn (next x)) (drawn (next (next x))) k) (pack_behind (is_hundredth k)) (turns_so (k % 4) ((k + 1) % 4) (drawn (next x)) (drawn (next (next x))) k) (none_behind (is_hundredth k) (early k first (omega (arith, last)))))
    (rounds_so count (k + 1) (next (next x)) (omega (arith, first)) (omega (arith, last)))

pub lines_so : (n : ℕ) → n < 100 → AllByRecursion PacksNot (gen_lines n)
lines_so n few = both setup (rounds n 1 n) setup_so (rounds_so n 1 n (omega arith) (omega (arith, few)))

-- ---- what a line has

pub line_fits : (l : Line) → IsLine l → IsFittingLine l
line_fits (line.Store oid base bytes) (oid_small, base_small, payload) = payload.some
line_fits (line.Put oid bytes) (small, some) = some
line_fits (line.Vote user description) (user_short, description_short) = (user_short.fits, description_short.fits)
line_fits (line.Undo user description tids) (user_short, description_short, undone) = (user_short.fits, description_short.fits)
line_fits _ is = tt

-- ---- the turn that was made

pub quiet_turn : (old new : List GenLine) (t : GenTurn) → GivesNext old (Some t) new → AllByRecursion PacksNot old → packs_list t.turn.line ≡ false
quiet_turn old new t gives quiet = packs_not gives.0.text t.turn.line (subst (λ (ls : List GenLine). AllByRecursion PacksNot ls) gives.1 quiet).0 gives.2.says

pub quiet_rest : (old new : List GenLine) (t : GenTurn) → GivesNext old (Some t) new → AllByRecursion PacksNot old → AllByRecursion PacksNot new
quiet_rest old new t gives quiet = (subst (λ (ls : List GenLine). AllByRecursion PacksNot ls) gives.1 quiet).1
