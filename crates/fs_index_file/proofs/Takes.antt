-- Entries in the first bytes alone.
use Rattle.std.proofs.Common.{◌≡◌, ℕ, ◌+◌, ◌≤◌, List, take, drop, refl, sym, ap, ◌∙◌, arith}
use Rattle.std.proofs.lemmas.List.{drop-take, get_or-take}
use Rattle.fs_index.specs.declared.place.Placed.{Placed}
use Rattle.fs_records.specs.Numbers.{number_in}
use Rattle.fs_records.specs.NumberLaws.{number_in-take}
use Rattle.fs_index_file.specs.declared.entries.Head.{Head}
use Rattle.fs_index_file.specs.declared.entries.Start.{Start}
use Rattle.fs_index_file.specs.Hints.{head_of, record_of, start_of}

number_taken : (k m n : ℕ) (bytes : List ℕ) → k + m ≡ n → 8 ≤ m → number_in 8 (drop k (take n bytes)) ≡ number_in 8 (drop k bytes)
number_taken k m n bytes e h = ap (λ (x : ℕ). number_in 8 (drop k (take x bytes))) (sym e) ∙ ap (number_in 8) (drop-take k m bytes) ∙ number_in-take 8 m (drop k bytes) h

head_made : {g e s r g' e' s' r' : ℕ} → g ≡ g' → e ≡ e' → s ≡ s' → r ≡ r' → let one : Head = record { gate = g; end = e; starts = s; records = r } in let other : Head = record { gate = g'; end = e'; starts = s'; records = r' } in one ≡ other
head_made a b c d = rw (a, b, c, d) refl

start_made : {t p s t' p' s' : ℕ} → t ≡ t' → p ≡ p' → s ≡ s' → let one : Start = record { place = record { serial = t; at = p }; status = s } in let other : Start = record { place = record { serial = t'; at = p' }; status = s' } in one ≡ other
start_made a b c = rw (a, b, c) refl

record_made : {o t p o' t' p' : ℕ} → o ≡ o' → t ≡ t' → p ≡ p' → let one : Placed = record { oid = o; place = record { serial = t; at = p } } in let other : Placed = record { oid = o'; place = record { serial = t'; at = p' } } in one ≡ other
record_made a b c = rw (a, b, c) refl

pub head_of-take : (bytes : List ℕ) → head_of (take 25 bytes) ≡ head_of bytes
unfolding head_of
head_of-take bytes = head_made (get_or-take 25 bytes 0 0 (omega arith)) (number_taken 1 24 25 bytes refl (omega arith)) (number_taken 9 16 25 bytes refl (omega arith)) (number_taken 17 8 25 bytes refl (omega arith))

pub start_of-take : (bytes : List ℕ) → start_of (take 17 bytes) ≡ start_of bytes
unfolding start_of
start_of-take bytes = start_made (number_taken 0 17 17 bytes refl (omega arith)) (number_taken 8 9 17 bytes refl (omega arith)) (get_or-take 17 bytes 16 0 (omega arith))

pub record_of-take : (bytes : List ℕ) → record_of (take 24 bytes) ≡ record_of bytes
unfolding record_of
record_of-take bytes = record_made (number_taken 0 24 24 bytes refl (omega arith)) (number_taken 8 16 24 bytes refl (omega arith)) (number_taken 16 8 24 bytes refl (omega arith))
