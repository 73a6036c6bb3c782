-- What is left of the script, as its lines are taken.
use Rattle.std.proofs.Common.{◌≡◌, ℕ, zero, suc, ◌+◌, ◌-◌, ◌%◌, ◌<◌, ◌≤◌, Bool, true, false, List, [], ◌∷◌, ◌++◌, Some, drop, length, refl, sym, ap, subst, ◌∙◌, arith}
use Rattle.std.specs.Prelude.{slice_get, slice_index, slice_set}
use Rattle.std.specs.List.{AllByRecursion}
use Rattle.gen_script.specs.declared.line.GenLine.{GenLine}
use Rattle.gen_script.specs.declared.turns.GenTurns.{GenTurns}
use Rattle.gen_script.specs.Counting.{AreCounts}
use Rattle.gen_script.specs.Left.{IsReady, SaysLine, lines_left}
use Rattle.gen_script.proofs.Counts.{counts_left, first_count}
use Rattle.gen_script.proofs.Texts.{AllSay}
use Rattle.gen_script.specs.Script.{count_of, drawn, gen_lines, is_hundredth, next, pack_behind, round, rounds, setup, turns_of}

same_line : (a b : GenLine) → Some a ≡ Some b → a ≡ b
same_line a b e = cc

-- the first line of a block that isn't taken whole
pub taken_next : (block : List GenLine) (at : ℕ) (l : GenLine) (later : List GenLine) → slice_get block at ≡ Some l → drop at block ++ later ≡ l ∷ (drop (at + 1) block ++ later)
taken_next [] at l later there = absurd cc
taken_next (x ∷ block) zero l later there = ap (λ (y : GenLine). y ∷ (block ++ later)) (same_line x l there)
taken_next (x ∷ block) (suc at) l later there =
    let one : suc (at + 1) ≡ suc at + 1 = omega arith in
    subst (λ (n : ℕ). drop at block ++ later ≡ l ∷ (drop n (x ∷ block) ++ later)) one (taken_next block at l later there)

pub over_next : (block : List GenLine) (at : ℕ) → length block ≤ at → drop at block ≡ []
over_next [] zero over = refl
over_next [] (suc at) over = refl
over_next (x ∷ block) zero over = absurd (omega (arith, over))
over_next (x ∷ block) (suc at) over = over_next block at (omega (arith, over))

-- the next round
pub rounds_left : (count k x m : ℕ) → count ≡ suc m → rounds count k x ≡ round k x ++ rounds m (k + 1) (next (next x))
rounds_left count k x m is = ap (λ (n : ℕ). rounds n k x) is

pub none_left : (count k x : ℕ) → count ≡ 0 → rounds count k x ≡ []
none_left count k x is = ap (λ (n : ℕ). rounds n k x) is

-- ---- clients

abbrev pub AreFour : List GenLine → Type 0
AreFour lines = AllByRecursion (λ l. l.client < 4) lines

four_both : (a b : List GenLine) → AreFour a → AreFour b → AreFour (a ++ b)
four_both [] b first second = second
four_both (l ∷ a) b first second = (first.0, four_both a b first.1 second)

four_pack : (b : Bool) → AreFour (pack_behind b)
four_pack true = (omega arith, tt)
four_pack false = tt

four_rounds : (count k x : ℕ) → AreFour (rounds count k x)
four_rounds zero k x = tt
four_rounds (suc count) k x =
    let i : k % 4 < 4 = omega arith in
    let j : (k + 1) % 4 < 4 = omega arith in
    four_both (round k x) (rounds count (k + 1) (next (next x)))
    (four_both (turns_of (k % 4) ((k + 1) % 4) (drawn (next x)) (drawn (next (next x))) k) (pack_behind (is_hundredth k)) (i, (j, (i, (j, (i, (j, (i, (i, (j, (j, (i, (j, tt)))))))))))) (four_pack (is_hundredth k)))
    (four_rounds count (k + 1) (next (next x)))

pub four_all : (n : ℕ) → AreFour (gen_lines n)
four_all n =
    four_both setup (rounds n 1 n) (omega arith, (omega arith, (omega arith, (omega arith, (omega arith, (omega arith, (omega arith, (omega arith, (omega arith, (omega arith, tt)))))))))) (four_rounds n 1 n)

-- ---- what is left behind a line, and behind a round

abbrev pub behind_line : GenTurns → List GenLine
behind_line g = drop (g.at + 1) g.block ++ rounds g.rounds_left g.round g.x

-- the first line that is left
pub record IsFirst (g : GenTurns) (l : GenLine) : Type 0 where
  pub lines : lines_left g ≡ l ∷ behind_line g
  pub small : l.client < 4
  pub some : 0 < slice_index g.counts l.client
  pub left : slice_index g.counts l.client - 1 ≡ count_of l.client (behind_line g)
  pub counts : AreCounts (slice_set g.counts l.client (slice_index g.counts l.client - 1)) (behind_line g)
  pub four : AreFour (behind_line g)
  pub says : SaysLine l.text
  pub texts : AllSay (behind_line g)

pub is_first : (g : GenTurns) (block : List GenLine) (l : GenLine) → IsReady g → block ≡ g.block → slice_get block g.at ≡ Some l → IsFirst g l
is_first g block l ready same there =
    let lines : lines_left g ≡ l ∷ behind_line g = taken_next g.block g.at l (rounds g.rounds_left g.round g.x) (sym (ap (λ (xs : List GenLine). slice_get xs g.at) same) ∙ there) in
    let four : AreFour (l ∷ behind_line g) = subst AreFour lines ready.clients in
    let texts : AllSay (l ∷ behind_line g) = subst AllSay lines ready.texts in
    let counts : AreCounts g.counts (l ∷ behind_line g) = subst (AreCounts g.counts) lines ready.counts in
    let first : slice_index g.counts l.client ≡ 1 + count_of l.client (behind_line g) = first_count g.counts l (behind_line g) counts four.0 in
    record {
      lines = lines;
      small = four.0;
      some = omega (arith, first);
      left = omega (arith, first);
      counts = counts_left g.counts l (behind_line g) counts four.0;
      four = four.1;
      says = texts.0;
      texts = texts.1;
    }

pub filled : (g : GenTurns) (block : List GenLine) (x : ℕ) → length g.block ≤ g.at → 0 < g.rounds_left → block ≡ round g.round g.x → x ≡ next (next g.x) → block ++ rounds (g.rounds_left - 1) (g.round + 1) x ≡ lines_left g
filled g block x over some made number =
    let left : g.rounds_left ≡ suc (g.rounds_left - 1) = omega (arith, some) in
    ap (λ (xs : List GenLine). xs ++ rounds (g.rounds_left - 1) (g.round + 1) x) made
    ∙ ap (λ (n : ℕ). round g.round g.x ++ rounds (g.rounds_left - 1) (g.round + 1) n) number
    ∙ sym (rounds_left g.rounds_left g.round g.x (g.rounds_left - 1) left)
    ∙ sym (ap (λ (xs : List GenLine). xs ++ rounds g.rounds_left g.round g.x) (over_next g.block g.at over))
