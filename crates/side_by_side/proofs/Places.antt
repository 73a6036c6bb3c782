-- Clients by their numbers, and the lines that they have left.
use Rattle.std.proofs.Common.{◌≡◌, ℕ, zero, suc, ◌+◌, ◌<◌, Bool, true, false, List, [], ◌∷◌, ◌++◌, Some, None, length, get_or, refl, sym, ap, subst, ◌∙◌, arith}
use Rattle.std.specs.Prelude.{◌≢◌, ◌||◌, slice_get, slice_set}
use Rattle.std.specs.List.{list_any}
use Rattle.zb_script.specs.declared.line.Turn.{Turn}
use Rattle.client_turns.specs.Output.{FlaggedTurn}
use Rattle.client_turns.specs.Standing.{ClientsState, packs_list}
use Rattle.client_turns.specs.Waiting.{is_held_up}
use Rattle.side_by_side.specs.Orders.{ClientLeft, IsTakenIn, is_done}
use Rattle.side_by_side.specs.Plays.{any_packs, count_left, first_waits, found_waits, left_found}

-- a client that has a line left
pub record HasFirst (clients : List ClientLeft) (n : ℕ) : Type 0 where
  pub name : List ℕ
  pub first : Turn
  pub later : List Turn
  pub there : slice_get clients n ≡ Some (record { name = name; left = first ∷ later })

pub within : (clients : List ClientLeft) (n : ℕ) → 0 < count_left clients n → n < length clients
within [] n some = absurd (omega (arith, some))
within (c ∷ clients) zero some = omega arith
within (c ∷ clients) (suc n) some = omega (arith, within clients n some)

-- the client at a number is another one
pub count_set : (clients : List ClientLeft) (n : ℕ) (c d : ClientLeft) → slice_get clients n ≡ Some c → count_left (slice_set clients n d) n ≡ length d.left
count_set [] n c d there = absurd cc
count_set (x ∷ clients) zero c d there = refl
count_set (x ∷ clients) (suc n) c d there = count_set clients n c d there

pub count_found : (clients : List ClientLeft) (n : ℕ) (c : ClientLeft) → slice_get clients n ≡ Some c → count_left clients n ≡ length c.left
count_found [] n c there = absurd cc
count_found (x ∷ clients) zero c there = ap left_found there
count_found (x ∷ clients) (suc n) c there = count_found clients n c there

pub count_other : (clients : List ClientLeft) (n other : ℕ) (d : ClientLeft) → other ≢ n → count_left (slice_set clients n d) other ≡ count_left clients other
count_other [] n other d differs = refl
count_other (x ∷ clients) zero zero d differs = absurd (differs refl)
count_other (x ∷ clients) zero (suc other) d differs = refl
count_other (x ∷ clients) (suc n) zero d differs = refl
count_other (x ∷ clients) (suc n) (suc other) d differs = count_other clients n other d (λ same. differs (ap suc same))

pub length_set : (clients : List ClientLeft) (n : ℕ) (d : ClientLeft) → length (slice_set clients n d) ≡ length clients
length_set [] n d = refl
length_set (x ∷ clients) zero d = refl
length_set (x ∷ clients) (suc n) d = ap suc (length_set clients n d)

-- ---- one turn more

pub taken_push : (clients : List ClientLeft) (order : List ℕ) (turns : List FlaggedTurn) (left : List ClientLeft) (n : ℕ) (t : FlaggedTurn) (name : List ℕ) (later : List Turn)
    → IsTakenIn clients order turns left → slice_get left n ≡ Some (record { name = name; left = t.turn ∷ later }) → t.is_last ≡ is_done later
    → IsTakenIn clients (order ++ n ∷ []) (turns ++ t ∷ []) (slice_set left n (record { name = name; left = later }))
taken_push clients [] [] left n t name later is there last =
    (name, later, subst (λ (cs : List ClientLeft). slice_get cs n ≡ Some (record { name = name; left = t.turn ∷ later })) is there, last, ap (λ (cs : List ClientLeft). slice_set cs n (record { name = name; left = later })) is)
taken_push clients [] (u ∷ turns) left n t name later is there last = absurd is
taken_push clients (k ∷ order) [] left n t name later is there last = absurd is
taken_push clients (k ∷ order) (u ∷ turns) left n t name later (who, rest, found, flag, more) there last =
    (who, rest, found, flag, taken_push (slice_set clients k (record { name = who; left = rest })) order turns left n t name later more there last)

-- ---- lines that don't pack

neither_first : (b c : Bool) → (b || c) ≡ false → b ≡ false
neither_first true c none = absurd cc
neither_first false c none = refl

neither_second : (b c : Bool) → (b || c) ≡ false → c ≡ false
neither_second true c none = absurd cc
neither_second false c none = none

both_not : (b c : Bool) → b ≡ false → c ≡ false → (b || c) ≡ false
both_not b c first second = rw (first, second) refl

abbrev packs_any : List Turn → Bool
packs_any turns = list_any (λ (t : Turn). packs_list t.line) turns

same_client : (c d : ClientLeft) → Some c ≡ Some d → c ≡ d
same_client c d e = cc

pub quiet_first : (clients : List ClientLeft) (n : ℕ) (name : List ℕ) (t : Turn) (later : List Turn) → slice_get clients n ≡ Some (record { name = name; left = t ∷ later }) → any_packs clients ≡ false → packs_list t.line ≡ false
quiet_first [] n name t later there none = absurd cc
quiet_first (c ∷ clients) zero name t later there none =
    neither_first (packs_list t.line) (packs_any later)
    (subst (λ (x : ClientLeft). packs_any x.left ≡ false) (same_client c (record { name = name; left = t ∷ later }) there) (neither_first (packs_any c.left) (any_packs clients) none))
quiet_first (c ∷ clients) (suc n) name t later there none = quiet_first clients n name t later there (neither_second (packs_any c.left) (any_packs clients) none)

pub quiet_set : (clients : List ClientLeft) (n : ℕ) (name : List ℕ) (t : Turn) (later : List Turn) → slice_get clients n ≡ Some (record { name = name; left = t ∷ later }) → any_packs clients ≡ false
    → any_packs (slice_set clients n (record { name = name; left = later })) ≡ false
quiet_set [] n name t later there none = absurd cc
quiet_set (c ∷ clients) zero name t later there none =
    both_not (packs_any later) (any_packs clients)
    (neither_second (packs_list t.line) (packs_any later)
    (subst (λ (x : ClientLeft). packs_any x.left ≡ false) (same_client c (record { name = name; left = t ∷ later }) there) (neither_first (packs_any c.left) (any_packs clients) none)))
    (neither_second (packs_any c.left) (any_packs clients) none)
quiet_set (c ∷ clients) (suc n) name t later there none =
    both_not (packs_any c.left) (any_packs (slice_set clients n (record { name = name; left = later }))) (neither_first (packs_any c.left) (any_packs clients) none)
    (quiet_set clients n name t later there (neither_second (packs_any c.left) (any_packs clients) none))

-- ---- who waits

pub waits_first : {R F : Type 0} (seen : ClientsState R F) (clients : List ClientLeft) (n : ℕ) (c : ClientLeft) (t : Turn) → slice_get clients n ≡ Some c → slice_get c.left 0 ≡ Some t → found_waits seen (slice_get clients n) ≡ is_held_up seen t
waits_first seen clients n c t there first = ap (found_waits seen) there ∙ by_left c.left first
  where
    same_turn : (t u : Turn) → Some t ≡ Some u → t ≡ u
    same_turn t u e = cc

    by_left : (left : List Turn) → slice_get left 0 ≡ Some t → first_waits seen left ≡ is_held_up seen t
    by_left [] first = absurd cc
    by_left (u ∷ later) first = ap (is_held_up seen) (same_turn u t first)

pub waits_none : {R F : Type 0} (seen : ClientsState R F) (clients : List ClientLeft) (n : ℕ) (c : ClientLeft) → slice_get clients n ≡ Some c → slice_get c.left 0 ≡ None → found_waits seen (slice_get clients n) ≡ false
waits_none seen clients n c there first = ap (found_waits seen) there ∙ by_left c.left first
  where
    by_left : (left : List Turn) → slice_get left 0 ≡ None → first_waits seen left ≡ false
    by_left [] first = refl
    by_left (u ∷ later) first = absurd cc

-- ---- a client's first line is taken

pub first_at : (lines : List ClientLeft) (n : ℕ) (y z : ClientLeft) (t : Turn) → y ≡ get_or lines n y → 0 < count_left lines n → y.left ≡ t ∷ z.left → slice_get lines n ≡ Some (record { name = y.name; left = t ∷ z.left })
first_at [] n y z t read some split = absurd (omega (arith, some))
first_at (x ∷ lines) zero y z t read some split = ap (λ (c : ClientLeft). Some c) (sym read ∙ ap (λ (l : List Turn). record { name = y.name; left = l }) split)
first_at (x ∷ lines) (suc n) y z t read some split = first_at lines n y z t read some split

pub set_named : (lines : List ClientLeft) (n : ℕ) (y z : ClientLeft) → z.name ≡ y.name → slice_set lines n z ≡ slice_set lines n (record { name = y.name; left = z.left })
set_named lines n y z named = ap (λ (name : List ℕ). slice_set lines n (record { name = name; left = z.left })) named

pub one_fewer : (lines lines' : List ClientLeft) (n : ℕ) (y z : ClientLeft) (t : Turn) → y ≡ get_or lines n y → 0 < count_left lines n → y.left ≡ t ∷ z.left → lines' ≡ slice_set lines n z → count_left lines' n + 1 ≡ count_left lines n
one_fewer lines lines' n y z t read some split set =
    let there = first_at lines n y z t read some split in
    let after : count_left lines' n ≡ length z.left = ap (λ (ls : List ClientLeft). count_left ls n) set ∙ count_set lines n (record { name = y.name; left = t ∷ z.left }) z there in
    let before : count_left lines n ≡ length z.left + 1 = count_found lines n (record { name = y.name; left = t ∷ z.left }) there ∙ omega arith in
    omega (arith, after, before)

pub others_kept : (lines lines' : List ClientLeft) (n other : ℕ) (z : ClientLeft) → other ≢ n → lines' ≡ slice_set lines n z → count_left lines' other ≡ count_left lines other
others_kept lines lines' n other z differs set = ap (λ (ls : List ClientLeft). count_left ls other) set ∙ count_other lines n other z differs
