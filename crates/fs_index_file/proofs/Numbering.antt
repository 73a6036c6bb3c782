-- The numbers of what an index file says are those of the transactions of Main.
use Rattle.std.proofs.Common.{◌≡◌, ℕ, ◌<◌, ◌≤◌, Bool, true, false, List, [], ◌∷◌, All, length, map, refl, sym, ap, subst, ◌∙◌, arith}
use Rattle.std.specs.Prelude.{◌||◌, ◌&&◌, ◌==◌, nat_eq, nat_le, max, None, Option, Some}
use Rattle.std.specs.Cmp.{IsEquivalence}
use Rattle.std.specs.Set.{is_member}
use Rattle.std.specs.List.{IsDistinct, last_or, list_any}
use Rattle.std.specs.Option.{ForSome, option_map_or}
use Rattle.std.proofs.lemmas.Bool.{eq-eqb, eqb-false, eqb-true, ne_eqb}
use Rattle.std.proofs.lemmas.List.{length-map}
use Rattle.std.proofs.lemmas.List.Elements.{All-head, All-tail}
use Rattle.std.proofs.lemmas.Map.Made.{length-from_same_keys}
use Rattle.zb_model.specs.declared.data.Change.{Change}
use Rattle.zb_model.specs.declared.data.Transaction.{Transaction}
use Rattle.zb_model.specs.Queries.{greatest_of, oids_of}
use Rattle.fs_index.specs.declared.place.Place.{Place}
use Rattle.fs_index.specs.declared.place.Placed.{Placed}
use Rattle.fs_index.specs.Places.{placed_of}
use Rattle.fs_records.specs.Blocks.{Known}
use Rattle.fs_records.specs.Databases.{reading_of}
use Rattle.fs_records.specs.Indexed.{places_of}
use Rattle.fs_recovery.specs.declared.counted.Counted.{Counted}
use Rattle.fs_recovery.specs.declared.opening.Opened.{Opened}
use Rattle.fs_recovery.specs.Opens.{IsUpTo, newest_kept}
use Rattle.fs_index_file.specs.Counts.{counted_at, counted_in, counted_of, oids_at}
use Rattle.fs_index_file.specs.Hints.{Entries, are_records, are_starts, entries_in, first_record, first_start, head_of, is_believed, is_hint, newest_in, size_by}
use Rattle.fs_index_file.specs.Honest.{AreUpTo, IsHonest}
use Rattle.fs_index_file.specs.HonestLaws.{newest_by_starts}
use Rattle.fs_index_file.specs.Reads.{HasEntries, HintGives}
use Rattle.fs_index_file.proofs.Changing.{IsTied, all_and, all_tied}
use Rattle.fs_index_file.proofs.Objects.{members, of_tid, oids_rise}

-- ---- the same objects are the same number, and have the same greatest one

eqb-swap : (x y : ℕ) → nat_eq x y ≡ nat_eq y x
eqb-swap x y = by_cases (nat_eq x y) (nat_eq y x) refl refl
  where
    by_cases : (a b : Bool) → nat_eq x y ≡ a → nat_eq y x ≡ b → a ≡ b
    by_cases true true p q = refl
    by_cases false false p q = refl
    by_cases true false p q = absurd (eqb-false _ _ q (sym (eqb-true _ _ p)))
    by_cases false true p q = absurd (eqb-false _ _ p (sym (eqb-true _ _ q)))

nat_eq-equiv : IsEquivalence nat_eq
nat_eq-equiv = record { refl = λ x. eq-eqb x x refl; symm = eqb-swap; congr = λ x y z same. ap (λ (n : ℕ). nat_eq n z) (eqb-true x y same) }

or_true : (b : Bool) → (b || true) ≡ true
or_true true = refl
or_true false = refl

le_either : (b : Bool) (o y : ℕ) (ys : List ℕ) → nat_eq o y ≡ b → (b || is_member nat_eq ys o) ≡ true → (is_member nat_eq ys o ≡ true → o ≤ greatest_of ys) → o ≤ max y (greatest_of ys)
le_either true o y ys same e rest = let k = eqb-true o y same in omega (arith, k)
le_either false o y ys apart e rest = let k = rest e in omega (arith, k)

member_le : (ys : List ℕ) (o : ℕ) → is_member nat_eq ys o ≡ true → o ≤ greatest_of ys
member_le [] o is = absurd cc
member_le (y ∷ ys) o is = le_either (nat_eq o y) o y ys refl is (λ m. member_le ys o m)

greatest_le : (xs ys : List ℕ) → ((o : ℕ) → is_member nat_eq xs o ≡ true → is_member nat_eq ys o ≡ true) → greatest_of xs ≤ greatest_of ys
greatest_le [] ys more = omega arith
greatest_le (x ∷ xs) ys more =
    let head = member_le ys x (more x (ap (λ (b : Bool). b || is_member nat_eq xs x) (eq-eqb x x refl))) in
    let tail = greatest_le xs ys (λ o m. more o (ap (λ (b : Bool). nat_eq o x || b) m ∙ or_true (nat_eq o x))) in
    omega (arith, head, tail)

pub counted_same : (xs ys : List ℕ) → IsDistinct nat_eq xs → IsDistinct nat_eq ys → ((o : ℕ) → is_member nat_eq xs o ≡ is_member nat_eq ys o) → counted_of xs ≡ counted_of ys
counted_same xs ys dx dy same =
    let long : length xs ≡ length ys = length-from_same_keys nat_eq-equiv xs ys dx dy same in
    let up = greatest_le xs ys (λ o m. sym (same o) ∙ m) in
    let down = greatest_le ys xs (λ o m. same o ∙ m) in
    let great : greatest_of xs ≡ greatest_of ys = omega (arith, up, down) in
    rw (long, great) refl

-- ---- one transaction

behind_none : (oid tid : ℕ) → 0 < tid → (nat_eq oid 0 && (0 == tid)) ≡ false
behind_none oid tid some = ap (λ (b : Bool). nat_eq oid 0 && b) (ne_eqb 0 tid (λ e. absurd (omega (arith, e, some)))) ∙ and_false (nat_eq oid 0)
  where
    and_false : (b : Bool) → (b && false) ≡ false
    and_false true = refl
    and_false false = refl

or_false : (b : Bool) → (b || false) ≡ b
or_false true = refl
or_false false = refl

same_objects : (rs : List Placed) (known : List Known) (t : Transaction) → ((oid : ℕ) → placed_of oid rs ≡ places_of oid known) → IsTied known t → (oid : ℕ) → is_member nat_eq (oids_of t) oid ≡ is_member nat_eq (oids_at t.tid first_record rs) oid
same_objects rs known t records tied oid =
    let none = behind_none oid t.tid tied.0 in
    tied.1 oid ∙ ap (list_any (of_tid t.tid)) (sym (records oid)) ∙ sym (or_false (list_any (of_tid t.tid) (placed_of oid rs))) ∙ ap (λ (b : Bool). list_any (of_tid t.tid) (placed_of oid rs) || b) (sym none)
    ∙ sym (members oid t.tid first_record rs)
    ∙ ap (λ (b : Bool). is_member nat_eq (oids_at t.tid first_record rs) oid || b) none ∙ or_false (is_member nat_eq (oids_at t.tid first_record rs) oid)

-- a transaction that is tied to the records changes as much as is counted of them
abbrev Counts : List Placed → Transaction → Type 0
Counts rs t = (p : Place) → p.serial ≡ t.tid → counted_in t ≡ counted_at rs p

counts : (newest end : ℕ) (rs : List Placed) (known : List Known) (t : Transaction) → are_records newest end first_record rs ≡ true → ((oid : ℕ) → placed_of oid rs ≡ places_of oid known) → IsTied known t → IsDistinct nat_eq (oids_of t) → Counts rs t
counts newest end rs known t sorted records tied distinct = λ p is.
    ap (λ (n : ℕ). record { changes = n; greatest = greatest_of (oids_of t) }) (sym (length-map t.changes (λ (c : Change). c.oid)))
    ∙ counted_same (oids_of t) (oids_at t.tid first_record rs) distinct (oids_rise newest end t.tid first_record rs sorted).distinct (same_objects rs known t records tied)
    ∙ ap (λ (n : ℕ). counted_of (oids_at n first_record rs)) (sym is)

-- ---- all transactions

heads : (x y : ℕ) (xs ys : List ℕ) → x ∷ xs ≡ y ∷ ys → x ≡ y
heads x y xs ys e = cc e

tails : (x y : ℕ) (xs ys : List ℕ) → x ∷ xs ≡ y ∷ ys → xs ≡ ys
tails x y xs ys e = cc e

counted_all : (rs : List Placed) (list : List Transaction) (places : List Place) → map (λ p. p.serial) places ≡ map (λ t. t.tid) list → All (Counts rs) list → map counted_in list ≡ map (counted_at rs) places
counted_all rs [] [] same all = refl
counted_all rs [] (p ∷ ps) same all = absurd cc
counted_all rs (t ∷ ts) [] same all = absurd cc
counted_all rs (t ∷ ts) (p ∷ ps) same all =
    let one = All-head (Counts rs) t ts all p (heads p.serial t.tid (map (λ q. q.serial) ps) (map (λ x. x.tid) ts) same) in
    let rest = counted_all rs ts ps (tails p.serial t.tid (map (λ q. q.serial) ps) (map (λ x. x.tid) ts) same) (All-tail (Counts rs) t ts all) in
    ap (λ (c : Counted). c ∷ map counted_in ts) one ∙ ap (λ (cs : List Counted). counted_at rs p ∷ cs) rest

up_to : (main : List ℕ) (e : Entries) (o : Opened) → are_records (newest_in e.starts) e.end first_record e.records ≡ true → HasEntries o e → AreUpTo main e → IsUpTo main o
up_to main e o sorted has up =
    let s = up.reached in
    let reading = reading_of main s up.begins in
    let starts : o.index.transactions ≡ s.starts = has.places ∙ up.places in
    let tids : map (λ t. t.tid) s.list ≡ map (λ p. p.serial) o.index.transactions = sym reading.starts ∙ ap (λ (ps : List Place). map (λ p. p.serial) ps) (sym starts) in
    let all = all_and (IsTied s.known) (λ t. IsDistinct nat_eq (oids_of t)) (Counts e.records) (λ t tied distinct. counts (newest_in e.starts) e.end e.records s.known t sorted up.records tied distinct) s.list (all_tied main s up.begins) reading.is.distinct in
    let newest : s.newest ≡ newest_kept o.index = newest_by_starts main s up.begins ∙ ap (λ (ps : List Place). option_map_or (λ (p : Place). p.serial) (last_or None ps) 0) (sym starts) in
    record {
      indexed = record {
        reached = s;
        begins = up.begins;
        end_is = up.end_is ∙ sym has.end_is;
        newest_is = newest;
        index = record { records = λ oid. has.records oid ∙ up.records oid; transactions = starts };
      };
      counted = has.numbers s.list tids (sym up.statuses) (counted_all e.records s.list o.index.transactions (sym tids) all);
    }

is_some_hint : (long : ℕ) (bytes : List ℕ) → is_believed long bytes ≡ true → is_hint bytes ≡ true
is_some_hint long bytes is = front (is_hint bytes) (nat_le (head_of bytes).end long) is
  where
    front : (a b : Bool) → (a && b) ≡ true → a ≡ true
    front true b e = refl
    front false b e = absurd cc

records_in_order : (bytes : List ℕ) → is_hint bytes ≡ true → are_records (newest_in (entries_in bytes).starts) (entries_in bytes).end first_record (entries_in bytes).records ≡ true
records_in_order bytes is =
    let e = entries_in bytes in
    last ((head_of bytes).gate == 1) (length bytes == size_by (head_of bytes)) (nat_le 4 e.end) (are_starts e.end first_start e.starts) (are_records (newest_in e.starts) e.end first_record e.records) is
  where
    last : (a b c d e : Bool) → (a && (b && (c && (d && e)))) ≡ true → e ≡ true
    last true true true true e is = is
    last true true true false e is = absurd cc
    last true true false d e is = absurd cc
    last true false c d e is = absurd cc
    last false b c d e is = absurd cc

-- what is read of an honest index file is what Main has
pub known_by : (long : ℕ) (main bytes : List ℕ) (o : Option Opened) → HintGives long bytes o → IsHonest main bytes → ForSome o (λ x. IsUpTo main x)
known_by long main bytes None gives honest = λ x none. absurd cc
known_by long main bytes (Some o) gives honest =
    let is = is_some_hint long bytes gives.0 in
    let known : IsUpTo main o = up_to main (entries_in bytes) o (records_in_order bytes is) gives.1 (honest is) in
    λ x some. let same : o ≡ x = cc some in subst (λ (y : Opened). IsUpTo main y) same known
