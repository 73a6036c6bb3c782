-- Data records one behind another.
use Rattle.std.proofs.Common.{◌≡◌, ℕ, ◌+◌, ◌<◌, ◌≤◌, List, [], ◌∷◌, sym, ap, subst, ◌∙◌, arith}
use Rattle.std.specs.Prelude.{nat_eq}
use Rattle.indexmap.specs.IndexMap.{insert_entry}
use Rattle.zb_model.specs.declared.data.Content.{Content}
use Rattle.fs_records.specs.Blocks.{Known}
use Rattle.fs_records.specs.Rules.{payload_size}
use Rattle.fs_reading.specs.Standing.{data_head_at, IsContent}
use Rattle.fs_reading.specs.ChangesStand.{RecordsBetween, entries_of}

-- the records from a place on, whose entries come to those of all
pub record StandsFrom (bytes : List ℕ) (place end : ℕ) (done : List (ℕ × Content)) (all : List Known) : Type 0 where
  pub rest : List Known
  pub between : RecordsBetween bytes place end rest
  pub comes_to : entries_of done rest ≡ entries_of [] all

-- no record stands behind the end
pub reaches : (bytes : List ℕ) (from end : ℕ) (ks : List Known) → RecordsBetween bytes from end ks → from ≤ end
reaches bytes from end [] is = let e : from ≡ end = is in omega arith
reaches bytes from end (k ∷ ks) is = let more = reaches bytes (from + 42 + payload_size (data_head_at bytes from)) end ks is.2 in omega arith

-- the record at a place before the end
pub record Next (bytes : List ℕ) (place end : ℕ) (done : List (ℕ × Content)) (all : List Known) : Type 0 where
  pub content : Content
  pub there : IsContent bytes content place
  pub reach : place + 42 + payload_size (data_head_at bytes place) ≤ end
  pub then : StandsFrom bytes (place + 42 + payload_size (data_head_at bytes place)) end (insert_entry nat_eq done (data_head_at bytes place).oid content) all

pub next : (bytes : List ℕ) (place end : ℕ) (done : List (ℕ × Content)) (all : List Known) → place < end → StandsFrom bytes place end done all → Next bytes place end done all
next bytes place end done all before s = of s.rest s.between s.comes_to
  where
    of : (ks : List Known) → RecordsBetween bytes place end ks → entries_of done ks ≡ entries_of [] all → Next bytes place end done all
    of [] is e = let same : place ≡ end = is in absurd (omega arith)
    of (k ∷ ks) is e =
        let at : k.place ≡ place = is.0 in
        let oid : (data_head_at bytes place).oid ≡ k.oid = sym (ap (λ (n : ℕ). (data_head_at bytes n).oid) at) ∙ is.1.oid in
        record {
          content = k.content;
          there = subst (λ (n : ℕ). IsContent bytes k.content n) at is.1.content;
          reach = reaches bytes (place + 42 + payload_size (data_head_at bytes place)) end ks is.2;
          then = record { rest = ks; between = is.2; comes_to = ap (λ (n : ℕ). entries_of (insert_entry nat_eq done n k.content) ks) oid ∙ e };
        }

-- at the end
pub ended : (bytes : List ℕ) (place end : ℕ) (done : List (ℕ × Content)) (all : List Known) → end ≤ place → StandsFrom bytes place end done all → done ≡ entries_of [] all
ended bytes place end done all past s = of s.rest s.between s.comes_to
  where
    of : (ks : List Known) → RecordsBetween bytes place end ks → entries_of done ks ≡ entries_of [] all → done ≡ entries_of [] all
    of [] is e = e
    of (k ∷ ks) is e = let more = reaches bytes (place + 42 + payload_size (data_head_at bytes place)) end ks is.2 in absurd (omega arith)
