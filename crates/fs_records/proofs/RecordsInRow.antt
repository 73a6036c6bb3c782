-- The places of the data records of the first changes, as a loop puts them together.
use Rattle.std.proofs.Common.{◌≡◌, ℕ, ◌+◌, ◌<◌, ◌≤◌, List, [], ◌∷◌, ◌++◌, length, get_or, take, drop, refl, sym, ap, ◌∙◌, arith}
use Rattle.std.proofs.lemmas.Grind.{common_steps}
use Rattle.std.proofs.lemmas.List.{take_all, take-append-drop}
use Rattle.zb_model.specs.declared.new_transaction.NewChange.{NewChange}
use Rattle.fs_index.specs.declared.place.Placed.{Placed}
use Rattle.fs_records.specs.Writing.{record_size}
use Rattle.fs_records.specs.Placing.{placed_from, placed_end}
use Rattle.fs_records.specs.PlacingLaws.{end_behind}

placed_from-push : (tid q : ℕ) (cs : List NewChange) (c : NewChange) → placed_from tid q (cs ++ c ∷ []) ≡ placed_from tid q cs ++ record { oid = c.oid; place = record { serial = tid; at = placed_end q cs } } ∷ []
placed_from-push tid q [] c = refl
placed_from-push tid q (x ∷ cs) c = ap (λ (ps : List Placed). record { oid = x.oid; place = record { serial = tid; at = q } } ∷ ps) (placed_from-push tid (q + record_size x.content) cs c)

placed_end-push : (q : ℕ) (cs : List NewChange) (c : NewChange) → placed_end q (cs ++ c ∷ []) ≡ placed_end q cs + record_size c.content
placed_end-push q [] c = refl
placed_end-push q (x ∷ cs) c = placed_end-push (q + record_size x.content) cs c

placed_end-append : (q : ℕ) (cs ds : List NewChange) → placed_end q (cs ++ ds) ≡ placed_end (placed_end q cs) ds
placed_end-append q [] ds = refl
placed_end-append q (x ∷ cs) ds = placed_end-append (q + record_size x.content) cs ds

next_take : (i : ℕ) (xs : List NewChange) (x : NewChange) → i < length xs → x ≡ get_or xs i x → take (i + 1) xs ≡ take i xs ++ x ∷ []
next_take i xs x within is = grind (arith, common_steps)

-- the places of the first i changes
pub record PlacedSoFar (tid from at i : ℕ) (changes : List NewChange) (placed : List Placed) : Type 0 where
  pub at_is : at ≡ placed_end from (take i changes)
  pub placed_is : placed ≡ placed_from tid from (take i changes)

pub none_placed : (tid from : ℕ) (changes : List NewChange) → PlacedSoFar tid from from 0 changes []
none_placed tid from changes = record { at_is = refl; placed_is = refl }

pub one_placed : (tid from at i : ℕ) (changes : List NewChange) (placed : List Placed) (c : NewChange) → i < length changes → c ≡ get_or changes i c → PlacedSoFar tid from at i changes placed
    → PlacedSoFar tid from (at + record_size c.content) (i + 1) changes (placed ++ record { oid = c.oid; place = record { serial = tid; at = at } } ∷ [])
one_placed tid from at i changes placed c within is so_far =
    let upto = next_take i changes c within is in
    let front = take i changes in
    record {
      at_is = ap (λ (n : ℕ). n + record_size c.content) so_far.at_is ∙ sym (ap (placed_end from) upto ∙ placed_end-push from front c);
      placed_is = ap (λ (ps : List Placed). ps ++ record { oid = c.oid; place = record { serial = tid; at = at } } ∷ []) so_far.placed_is
          ∙ ap (λ (n : ℕ). placed_from tid from front ++ record { oid = c.oid; place = record { serial = tid; at = n } } ∷ []) so_far.at_is
          ∙ sym (ap (placed_from tid from) upto ∙ placed_from-push tid from front c);
    }

pub all_placed : (tid from at i : ℕ) (changes : List NewChange) (placed : List Placed) → length changes ≤ i → PlacedSoFar tid from at i changes placed → placed ≡ placed_from tid from changes
all_placed tid from at i changes placed done so_far = so_far.placed_is ∙ ap (placed_from tid from) (take_all i changes done)

-- where the next record ends
pub next_within : (from at i : ℕ) (changes : List NewChange) (c : NewChange) → i < length changes → c ≡ get_or changes i c → at ≡ placed_end from (take i changes) → at + record_size c.content ≤ placed_end from changes
next_within from at i changes c within is at_is =
    let upto = next_take i changes c within is in
    let split : take (i + 1) changes ++ drop (i + 1) changes ≡ changes = take-append-drop (i + 1) changes in
    omega (
      arith,
      ap (placed_end from) split,
      placed_end-append from (take (i + 1) changes) (drop (i + 1) changes),
      end_behind (placed_end from (take (i + 1) changes)) (drop (i + 1) changes),
      ap (placed_end from) upto,
      placed_end-push from (take i changes) c,
    )
