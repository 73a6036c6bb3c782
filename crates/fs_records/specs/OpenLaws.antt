-- A header that was accepted, and places that stand before one further on.
use Rattle.std.proofs.Common.{◌≡◌, ℕ, ◌+◌, ◌<◌, ◌≤◌, List, [], length, drop, sym, ap, arith}
use Rattle.std.proofs.lemmas.List.{length-drop}
use Rattle.std.proofs.lemmas.List.Elements.{All-weaker}
use Rattle.fs_records.specs.declared.header.Header.{Header}
use Rattle.fs_records.specs.declared.verdict.Verdict.TheVariants.{Begun}
use Rattle.fs_records.specs.Headers.{header_of}
use Rattle.fs_records.specs.Rules.{texts_length, verdict}
use Rattle.fs_index.specs.Places.{PlacesKept, places_in, IsBefore, AreBefore}
use Rattle.fs_records.specs.BlockLaws.{judged}

-- what holds of a header that was accepted
pub record Accepted (bytes : List ℕ) (p newest : ℕ) (h : Header) : Type 0 where
  pub some : p + 23 ≤ length bytes
  pub long : p + h.length + 8 ≤ length bytes
  pub texts_fit : 23 + texts_length h ≤ h.length
  pub above : newest < h.tid

pub some_left : (bytes : List ℕ) (p newest : ℕ) → p ≤ length bytes → Begun ≡ verdict newest (drop p bytes) → p + 23 ≤ length bytes
some_left bytes p newest within begun = let j = judged newest (drop p bytes) (sym begun) in omega (arith, j.some, length-drop p bytes)

pub accepted : (bytes : List ℕ) (p newest : ℕ) (h : Header) → p ≤ length bytes → Begun ≡ verdict newest (drop p bytes) → h ≡ header_of (drop p bytes) → Accepted bytes p newest h
accepted bytes p newest h within begun is =
    let j = judged newest (drop p bytes) (sym begun) in
    let l = ap (λ (x : Header). x.length) is in
    let t = ap (λ (x : Header). x.tid) is in
    let w = ap (λ (x : Header). texts_length x) is in
    record {
      some = some_left bytes p newest within begun;
      long = omega (arith, j.long, length-drop p bytes, l);
      texts_fit = omega (arith, j.texts_fit, l, w);
      above = omega (arith, j.above, t);
    }

pub before_weaker : (entries : List (ℕ × PlacesKept)) (tid at new_tid to : ℕ) → tid ≤ new_tid → at ≤ to → AreBefore entries tid at → AreBefore entries new_tid to
before_weaker entries tid at new_tid to a b before o = All-weaker (IsBefore tid at) (IsBefore new_tid to) (λ p h. (omega (arith, h.0), omega (arith, h.1))) (places_in entries o) (before o)

pub none_before : (tid at : ℕ) → AreBefore [] tid at
none_before tid at o k d l = absurd (omega arith)
