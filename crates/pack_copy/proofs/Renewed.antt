-- A transaction that is written anew, with each content in full, stands there as itself.
use Rattle.std.proofs.Common.{◌≡◌, ℕ, ◌+◌, ◌-◌, ◌^◌, ◌<◌, Bool, true, false, cond, eqb, List, [], ◌∷◌, ◌++◌, All, length, map, refl, sym, ap, subst, ◌∙◌, append_assoc, arith}
use Rattle.std.specs.Prelude.{nat_eq, ◌||◌}
use Rattle.std.specs.List.{AllByRecursion, IsDistinct}
use Rattle.std.specs.Map.{keys_of}
use Rattle.std.proofs.lemmas.Bool.{eqb-true, eqb-false}
use Rattle.std.proofs.lemmas.List.{append-nil, map-append}
use Rattle.std.proofs.lemmas.List.Elements.{All-head, All-tail}
use Rattle.zb_model.specs.declared.data.Content.{Content}
use Rattle.zb_model.specs.declared.data.Content.TheVariants.{Held, Absent}
use Rattle.zb_model.specs.declared.data.Change.{Change}
use Rattle.zb_model.specs.declared.data.Transaction.{Transaction}
use Rattle.zb_model.specs.Database.{newest_tid}
use Rattle.fs_records.specs.Blocks.{AreWritten, Begins, IsBlock, IsPayload, Known, Reached, Written, as_change, changes_of, content_of, length_of, record_text, records_from, transaction_of, with_record}
use Rattle.fs_records.specs.Databases.{reading_of}
use Rattle.fs_index.specs.Places.{PlacesKept}
use Rattle.fs_records.specs.Writing.{HasRoom, PayloadFits, block_of, payload_of, written_of}
use Rattle.fs_reading.specs.Formed.{HasBytes, IsFormed}
use Rattle.pack_copy.specs.Renewing.{anew, change_anew, content_anew, status_of}

-- ---- one entry an object

apart : (n : ℕ) (xs : List ℕ) (y : ℕ) (ys : List ℕ) → AllByRecursion (λ m. nat_eq n m ≡ false) (xs ++ y ∷ ys) → nat_eq n y ≡ false
apart n [] y ys h = h.0
apart n (x ∷ xs) y ys h = apart n xs y ys h.1

-- a data record of another object puts its entry behind them
put_behind : (known : List Known) (place tid q : ℕ) (r : Written) (done : List (ℕ × Content)) (others : List ℕ) → IsDistinct nat_eq (keys_of done ++ r.oid ∷ others) → changes_of done known place tid q (r ∷ []) ≡ done ++ (r.oid, content_of known r.oid r.payload) ∷ []
unfolding IsDistinct
put_behind known place tid q r [] others h = refl
put_behind known place tid q r (e ∷ es) others h = by_cases (eqb r.oid e.0) refl (put_behind known place tid q r es others h.1)
  where
    v : Content
    v = content_of known r.oid r.payload

    by_cases : (b : Bool) → eqb r.oid e.0 ≡ b → changes_of es known place tid q (r ∷ []) ≡ es ++ (r.oid, v) ∷ [] → cond b ((e.0, v) ∷ es) (e ∷ changes_of es known place tid q (r ∷ [])) ≡ e ∷ (es ++ (r.oid, v) ∷ [])
    by_cases true same rest = absurd (eqb-false e.0 r.oid (apart e.0 (keys_of es) r.oid others h.0) (sym (eqb-true r.oid e.0 same)))
    by_cases false other rest = ap (λ (x : List (ℕ × Content)). e ∷ x) rest

keys_behind : (done : List (ℕ × Content)) (oid : ℕ) (others : List ℕ) (v : Content) → keys_of (done ++ (oid, v) ∷ []) ++ others ≡ keys_of done ++ oid ∷ others
keys_behind [] oid others v = refl
keys_behind (e ∷ es) oid others v = ap (λ (x : List ℕ). e.0 ∷ x) (keys_behind es oid others v)

-- ---- its data records

abbrev written : List (ℕ × PlacesKept) → List Change → List Written
written entries cs = map (written_of entries) (map change_anew cs)

payload_stands : (known : List Known) (entries : List (ℕ × PlacesKept)) (oid : ℕ) (c : Content) → HasBytes c → PayloadFits (payload_of entries oid (content_anew c)) → IsPayload known oid (payload_of entries oid (content_anew c))
payload_stands known entries oid (Held bytes) some fits = (some, fits)
payload_stands known entries oid Absent some fits = (fits, refl)

payload_content : (known : List Known) (entries : List (ℕ × PlacesKept)) (oid : ℕ) (c : Content) → content_of known oid (payload_of entries oid (content_anew c)) ≡ c
payload_content known entries oid (Held bytes) = refl
payload_content known entries oid Absent = refl

are_written : (entries : List (ℕ × PlacesKept)) (place tid q : ℕ) (known : List Known) (cs : List Change) → All (λ (c : Change). HasBytes c.content) cs → AllByRecursion HasRoom (written entries cs) → AreWritten known place tid q (written entries cs)
are_written entries place tid q known [] filled room = tt
are_written entries place tid q known (c ∷ cs) filled room =
    let r : Written = written_of entries (change_anew c) in (
      record { oid = room.0.oid; previous = room.0.previous; payload = payload_stands known entries c.oid c.content (All-head (λ (x : Change). HasBytes x.content) c cs filled) room.0.payload },
      are_written entries place tid (q + length (record_text place tid r)) (with_record known tid q r) cs (All-tail (λ (x : Change). HasBytes x.content) c cs filled) room.1,
    )

abbrev oids : List Change → List ℕ
oids cs = map (λ (c : Change). c.oid) cs

changes_are : (entries : List (ℕ × PlacesKept)) (place tid q : ℕ) (known : List Known) (done : List (ℕ × Content)) (cs : List Change) → IsDistinct nat_eq (keys_of done ++ oids cs)
    → map as_change (changes_of done known place tid q (written entries cs)) ≡ map as_change done ++ cs
changes_are entries place tid q known done [] distinct = sym (append-nil (map as_change done))
changes_are entries place tid q known done (c ∷ cs) distinct =
    let r : Written = written_of entries (change_anew c) in
    let v : Content = content_of known r.oid r.payload in
    let next : ℕ = q + length (record_text place tid r) in
    ap (λ (es : List (ℕ × Content)). map as_change (changes_of es (with_record known tid q r) place tid next (written entries cs))) (put_behind known place tid q r done (oids cs) distinct)
    ∙ changes_are entries place tid next (with_record known tid q r) (done ++ (c.oid, v) ∷ []) cs (subst (λ (ks : List ℕ). IsDistinct nat_eq ks) (sym (keys_behind done c.oid (oids cs) v)) distinct)
    ∙ ap (λ (x : List Change). x ++ cs) (map-append as_change done ((c.oid, v) ∷ []))
    ∙ append_assoc (map as_change done) (as_change (c.oid, v) ∷ []) cs
    ∙ ap (λ (w : Content). map as_change done ++ as_change (c.oid, w) ∷ cs) (payload_content known entries c.oid c.content)

-- ---- the whole of it

-- its status says whether a pack has gone over it
one_status : (packed : Bool) → (eqb (cond packed 112 32) 32 || eqb (cond packed 112 32) 112) ≡ true
one_status true = refl
one_status false = refl

says_packed : (packed : Bool) → eqb (cond packed 112 32) 112 ≡ packed
says_packed true = refl
says_packed false = refl

-- what stands there is the transaction itself, packed or not
pub record StandsThere (s : Reached) (entries : List (ℕ × PlacesKept)) (x : Transaction) : Type 0 where
  pub block : IsBlock s (block_of (status_of x) entries (anew x))
  pub is : transaction_of s (block_of (status_of x) entries (anew x)) ≡ x

pub stands_there : (bytes : List ℕ) (s : Reached) (entries : List (ℕ × PlacesKept)) (x : Transaction) → Begins bytes s → IsFormed x → x.tid < 2 ^ 64 - 1 → newest_tid s.list < x.tid → AllByRecursion HasRoom (written entries x.changes)
    → s.end < 2 ^ 64 → length_of s.end (block_of (status_of x) entries (anew x)) < 2 ^ 64 → StandsThere s entries x
stands_there bytes s entries x begins formed bound later room place long =
    let b = block_of (status_of x) entries (anew x) in
    let read = reading_of bytes s begins in
    record {
      block = record {
        place = place;
        above = omega (arith, read.newest, later);
        below = bound;
        status = one_status x.packed;
        user = omega (arith, formed.user);
        description = omega (arith, formed.description);
        extension = omega (arith, formed.extension);
        records = are_written entries s.end x.tid (records_from s.end b) s.known x.changes formed.changes.filled room;
        long = long;
      };
      is = ap (λ (p : Bool). record (transaction_of s b) { packed = p }) (says_packed x.packed)
          ∙ ap (λ (cs : List Change). record x { changes = cs }) (changes_are entries s.end x.tid (records_from s.end b) s.known [] x.changes formed.changes.distinct);
    }
