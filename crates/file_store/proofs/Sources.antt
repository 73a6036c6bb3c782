-- What is known of the contents before the end stays known.
use Rattle.std.proofs.Common.{◌≡◌, ℕ, ◌+◌, ◌≤◌, List, [], ◌++◌, length, take, drop, Option, Some, None, sym, ap, subst, ◌∙◌, arith}
use Rattle.std.proofs.Math.ListN.{set}
use Rattle.std.proofs.lemmas.List.{take-append-drop, take-append-le, take-take, take-set-le, take_all}
use Rattle.zb_volume.specs.declared.areas.Area.TheVariants.{Main}
use Rattle.zb_volume.specs.Calls.{Event}
use Rattle.zb_volume.specs.Disk.{seen, written}
use Rattle.zb_volume.specs.Lasting.{written_end}
use Rattle.zb_volume.specs.Moments.{StaysAs}
use Rattle.fs_reading.specs.declared.outline.KnownSource.{KnownSource}
use Rattle.fs_reading.specs.Known.{AreSourcesOf}
use Rattle.fs_reading.specs.KnownLaws.{known_longer}
use Rattle.file_store.specs.declared.staged.Staged.{Staged}
use Rattle.file_store.specs.Kept.{IsKept, length_by}
use Rattle.fs_recovery.specs.Numbers.{NumbersKept}
use Rattle.file_store.specs.Staging.{StagedKept}
use Rattle.file_store.proofs.Sides.{seen_stays}

-- what is known of the contents before an end of Main
abbrev pub KnownBefore : List Event → ℕ → List KnownSource → Type 0
KnownBefore log end known = AreSourcesOf (take end (seen log Main)) known

-- ---- a call that leaves Main

pub known_still : (T B : Type 0) (old new : List Event) (end : ℕ) (known : List KnownSource) → new ≡ old → (T → B → KnownBefore old end known) → T → B → KnownBefore new end known
known_still T B old new end known same k = subst (λ (log : List Event). T → B → KnownBefore log end known) (sym same) k

pub known_stays : (old new : List Event) (end : ℕ) (known : List KnownSource) → StaysAs Main old new → KnownBefore old end known → KnownBefore new end known
known_stays old new end known stays k = subst (λ (b : List ℕ). AreSourcesOf (take end b) known) (sym (seen_stays Main old new stays)) k

pub known_none : (bytes : List ℕ) (known : List KnownSource) → known ≡ [] → AreSourcesOf bytes known
known_none bytes known is = subst (λ (ks : List KnownSource). AreSourcesOf bytes ks) (sym is) tt

-- ---- all of Main stands before the end

pub whole_main : (main : List ℕ) (index : StagedKept) (numbers : NumbersKept) → IsKept main index numbers → index.staged ≡ None → length main ≡ index.end
whole_main main index numbers kept free = kept.whole ∙ ap (λ (o : Option Staged). length_by o index.end) free

pub known_whole : (bytes : List ℕ) (end : ℕ) (known : List KnownSource) → length bytes ≡ end → AreSourcesOf (take end bytes) known → AreSourcesOf bytes known
known_whole bytes end known long k = subst (λ (b : List ℕ). AreSourcesOf b known) (take_all end bytes (omega arith)) k

pub known_front : (bytes : List ℕ) (end : ℕ) (known : List KnownSource) → length bytes ≡ end → AreSourcesOf bytes known → AreSourcesOf (take end bytes) known
known_front bytes end known long k = subst (λ (b : List ℕ). AreSourcesOf b known) (sym (take_all end bytes (omega arith))) k

-- ---- a vote, a finish, an abort

pub known_voted : (main now_main text : List ℕ) (end was now : ℕ) (known : List KnownSource) → length main ≡ was → end ≡ was → now ≡ was → now_main ≡ written main end text → AreSourcesOf (take was main) known → AreSourcesOf (take now now_main) known
known_voted main now_main text end was now known long here same content k =
    let grown : now_main ≡ main ++ text = content ∙ written_end main text end (long ∙ sym here) in
    let front : take now now_main ≡ take was main = ap (λ (n : ℕ). take n now_main) same ∙ ap (take was) grown ∙ take-append-le was main text (omega arith) in
    subst (λ (b : List ℕ). AreSourcesOf b known) (sym front) k

pub known_finished : (main now_main : List ℕ) (was now at byte : ℕ) (known : List KnownSource) → was ≤ now → was ≤ at → now_main ≡ set main at byte → AreSourcesOf (take was main) known → AreSourcesOf (take now now_main) known
known_finished main now_main was now at byte known further behind content k =
    let front : take was (take now now_main) ≡ take was main = take-take was now now_main further ∙ ap (take was) content ∙ take-set-le was main at byte behind in
    subst (λ (b : List ℕ). AreSourcesOf b known) (ap (λ (b : List ℕ). b ++ drop was (take now now_main)) (sym front) ∙ take-append-drop was (take now now_main))
    (known_longer (take was main) (drop was (take now now_main)) known k)

pub known_aborted : (main now_main : List ℕ) (end was now : ℕ) (known : List KnownSource) → end ≡ was → now ≡ was → now_main ≡ take end main → AreSourcesOf (take was main) known → AreSourcesOf (take now now_main) known
known_aborted main now_main end was now known here same content k =
    let front : take now now_main ≡ take was main = ap (λ (n : ℕ). take n now_main) same ∙ ap (take was) (content ∙ ap (λ (n : ℕ). take n main) here) ∙ take-take was was main (omega arith) in
    subst (λ (b : List ℕ). AreSourcesOf b known) (sym front) k
