-- What is read is a record, and a record is read.
use Rattle.std.proofs.Common.{◌≡◌, ℕ, Bool, true, false, cond, List, [], ◌++◌, length, drop, Result, Ok, Err, refl, ◌∙◌, ap, subst, eqb}
use Rattle.std.proofs.lemmas.Bool.{eqb-true, eq-eqb}
use Rattle.pickle_reading.specs.declared.error.PickleError.{PickleError}
use Rattle.pickle_references.specs.declared.pair.Pair.{Pair}
use Rattle.pickle_references.specs.declared.part.Part.{Part}
use Rattle.pickle_graph.specs.Class.{is_class}
use Rattle.pickle_graph.specs.Graph.{Graph}
use Rattle.pickle_reading.specs.Reading.{go_on}
use Rattle.pickle_references.specs.References.{Left, part_at, with_second, second_of, pair_of}
use Rattle.pickle_references.specs.Named.{ToldIsNamed}
use Rattle.zb_record.specs.declared.error.RecordError.{RecordError}
use Rattle.zb_record.specs.declared.error.RecordError.TheVariants as errors
use Rattle.zb_record.specs.Records.{◌>>=◌, judged, record_in, record_parts, references_of}
use Rattle.zb_record.specs.Laws.{IsRecord, IsReadRecord, ReadIsRecord, RecordIsRead}

bind_ok : {A B : Type 0} (r : Result A RecordError) (f : A → Result B RecordError) (y : B) → (r >>= f) ≡ Ok y → (x : A) × (r ≡ Ok x) × (f x ≡ Ok y)
bind_ok (Ok x) f y h = (x, refl, h)
bind_ok (Err e) f y h = absurd cc

-- ---- two pickles

went_on : (r : Result Left PickleError) (f : Left → Result Pair PickleError) (y : Pair) → go_on f r ≡ Ok y → (x : Left) × (r ≡ Ok x) × (f x ≡ Ok y)
went_on (Ok x) f y h = (x, refl, h)
went_on (Err e) f y h = absurd cc

had_second : (first : Part) (r : Result Left PickleError) (y : Pair) → with_second first r ≡ Ok y → (x : Left) × (r ≡ Ok x) × (record { first = first; second = x.0 } ≡ y)
had_second first (Ok x) y h = (x, refl, cc)
had_second first (Err e) y h = absurd cc

record Two (bytes : List ℕ) (pair : Pair) : Type 0 where
  memo : List (ℕ × ℕ)
  left : List (ℕ × ℕ)
  first : part_at [] [] 0 bytes ≡ Ok (pair.first, memo)
  second : part_at pair.first.pickle.nodes memo pair.first.behind (drop pair.first.behind bytes) ≡ Ok (pair.second, left)

two : (bytes : List ℕ) (pair : Pair) → pair_of bytes ≡ Ok pair → Two bytes pair
two bytes pair h =
    let a = went_on (part_at [] [] 0 bytes) (second_of bytes) pair h in
    let b = had_second a.0.0 (part_at a.0.0.pickle.nodes a.0.1 a.0.0.behind (drop a.0.0.behind bytes)) pair a.2 in
    subst (Two bytes) b.2 (record { memo = a.0.1; left = b.0.1; first = a.1; second = b.1 })

-- ---- what is judged

record Judges (bytes : List ℕ) (pair : Pair) : Type 0 where
  ends : pair.second.behind ≡ length bytes
  class_is : is_class pair.first.pickle ≡ true

judges : (bytes : List ℕ) (pair parts : Pair) → judged bytes pair ≡ Ok parts → Judges bytes pair × (pair ≡ parts)
judges bytes pair parts h = test (eqb pair.second.behind (length bytes)) refl h
  where
    inner : (ends : pair.second.behind ≡ length bytes) (c : Bool) → is_class pair.first.pickle ≡ c → cond c (Ok pair) (Err errors.BadClass) ≡ Ok parts → Judges bytes pair × (pair ≡ parts)
    inner ends true e k = (record { ends = ends; class_is = e }, cc)
    inner ends false e k = absurd cc

    test : (b : Bool) → eqb pair.second.behind (length bytes) ≡ b → cond b (cond (is_class pair.first.pickle) (Ok pair) (Err errors.BadClass)) (Err (errors.Rest pair.second.behind)) ≡ Ok parts → Judges bytes pair × (pair ≡ parts)
    test true e k = inner (eqb-true pair.second.behind (length bytes) e) (is_class pair.first.pickle) refl k
    test false e k = absurd cc

record Parts (bytes : List ℕ) (read : Result Pair PickleError) (pair : Pair) : Type 0 where
  reads : read ≡ Ok pair
  judges : Judges bytes pair

parts_in : (bytes : List ℕ) (read : Result Pair PickleError) (parts : Pair) → record_in bytes read ≡ Ok parts → Parts bytes read parts
parts_in bytes (Ok pair) parts h = let j = judges bytes pair parts h in subst (Parts bytes (Ok pair)) j.1 (record { reads = refl; judges = j.0 })
parts_in bytes (Err e) parts h = absurd cc

-- a part with its members
abbrev part : Graph → List ℕ → ℕ → Part
part graph oids behind = record { pickle = graph; oids = oids; behind = behind }

of_parts : (bytes : List ℕ) (parts : Pair) → record_parts bytes ≡ Ok parts → IsRecord bytes parts.first.pickle parts.second.pickle parts.first.oids parts.second.oids
unfolding record_parts
of_parts bytes parts h =
    let p = parts_in bytes (pair_of bytes) parts h in
    let t = two bytes parts p.reads in
    record {
      behind = parts.first.behind;
      memo = t.memo;
      left = t.left;
      first = t.first;
      second = t.second ∙ ap (λ (k : ℕ). Ok (part parts.second.pickle parts.second.oids k, t.left)) p.judges.ends;
      class_is = p.judges.class_is;
    }

module _ (told : ToldIsNamed) where
  known : (bytes : List ℕ) (class state : Graph) (a b : List ℕ) → IsRecord bytes class state a b → references_of bytes ≡ Ok (a ++ b) → IsReadRecord bytes class state
  known bytes class state a b i t =
      let first = told [] [] 0 bytes (part class a i.behind) i.memo i.first in
      let second = told class.nodes i.memo i.behind (drop i.behind bytes) (part state b (length bytes)) i.left i.second in
      record { class_oids = a; state_oids = b; is = i; class_reads = first.reads; state_reads = second.reads; class_named = first.named; state_named = second.named; told = t }

  pub read-is_record : ReadIsRecord
  read-is_record bytes class state h =
      let a = bind_ok (record_parts bytes) (λ parts. Ok (parts.first.pickle, parts.second.pickle)) (class, state) h in
      let both : (a.0.first.pickle, a.0.second.pickle) ≡ (class, state) = cc in
      let c : a.0.first.pickle ≡ class = ap (λ (x : Graph × Graph). x.0) both in
      let s : a.0.second.pickle ≡ state = ap (λ (x : Graph × Graph). x.1) both in
      let is : IsRecord bytes class state a.0.first.oids a.0.second.oids =
      subst (λ (g : Graph). IsRecord bytes class g a.0.first.oids a.0.second.oids) s (subst (λ (g : Graph). IsRecord bytes g a.0.second.pickle a.0.first.oids a.0.second.oids) c (of_parts bytes a.0 a.1)) in
      known bytes class state a.0.first.oids a.0.second.oids is (ap (λ (r : Result Pair RecordError). r >>= λ parts. Ok (parts.first.oids ++ parts.second.oids)) a.1)

tests : (b c : Bool) (pair : Pair) (at : ℕ) → b ≡ true → c ≡ true → cond b (cond c (Ok pair) (Err errors.BadClass)) (Err (errors.Rest at)) ≡ Ok pair
tests b c pair at p q = rw (p, q) refl

all_parts : (bytes : List ℕ) (class state : Graph) (a b : List ℕ) (i : IsRecord bytes class state a b) → record_parts bytes ≡ Ok (record { first = part class a i.behind; second = part state b (length bytes) })
unfolding record_parts
all_parts bytes class state a b i =
    let first : Part = part class a i.behind in
    let second : Part = part state b (length bytes) in
    ap (λ (r : Result Left PickleError). record_in bytes (go_on (second_of bytes) r)) i.first
    ∙ ap (λ (r : Result Left PickleError). record_in bytes (with_second first r)) i.second
    ∙ tests (eqb (length bytes) (length bytes)) (is_class class) (record { first = first; second = second }) (length bytes) (eq-eqb (length bytes) (length bytes) refl) i.class_is

pub record-is_read : RecordIsRead
record-is_read bytes class state a b i =
    let h = all_parts bytes class state a b i in (
      ap (λ (r : Result Pair RecordError). r >>= λ parts. Ok (parts.first.pickle, parts.second.pickle)) h,
      ap (λ (r : Result Pair RecordError). r >>= λ parts. Ok (parts.first.oids ++ parts.second.oids)) h,
    )
