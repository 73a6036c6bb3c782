-- The changes that are read name each object once, and no record of them is empty, whatever a volume gives.
use Rattle.std.proofs.Common.{◌≡◌, ℕ, ◌+◌, ◌<◌, Bool, true, false, cond, eqb, List, [], ◌∷◌, ◌++◌, length, get_or, map, take, All, Option, Some, None, refl, sym, ap, subst, ◌∙◌}
use Rattle.std.specs.Prelude.{nat_eq}
use Rattle.std.specs.List.{AllByRecursion, IsDistinct}
use Rattle.std.specs.Map.{keys_of}
use Rattle.std.proofs.lemmas.List.{map-append, take_more}
use Rattle.std.proofs.lemmas.List.Elements.{All-append, All-cons, All-nil}
use Rattle.indexmap.specs.IndexMap.{insert_entry}
use Rattle.zb_model.specs.declared.data.Content.{Content}
use Rattle.zb_model.specs.declared.data.Change.{Change}
use Rattle.fs_records.specs.Blocks.{as_change}
use Rattle.fs_reading.specs.declared.outline.Source.{Source}
use Rattle.fs_reading.specs.declared.outline.OutlinedChange.{OutlinedChange}
use Rattle.fs_reading.specs.Formed.{HasBytes, AreFormed}
use Rattle.fs_reading.specs.Outlines.{AllStandWithin, AreOutlined, HasLength, StandsWithin, outlined_change, outlined_content}
use Rattle.fs_reading.specs.SourceEntries.{AreSources, EntriesWithin, entries_from, outlined_entry}
use Rattle.fs_reading.specs.Sources.{IsSource}

-- ---- where a content stands

pub source_content : (bytes : List ℕ) (content : Content) (source : Option Source) → IsSource bytes content source → outlined_content bytes source ≡ content
source_content bytes content None is = sym is
source_content bytes content (Some s) is = sym is.0

pub source_within : (bytes : List ℕ) (content : Content) (source : Option Source) → IsSource bytes content source → StandsWithin bytes source
source_within bytes content None is = tt
source_within bytes content (Some s) is = is.1

-- ---- with one entry more

module _ (P : Option Source → Type 0) where
  all_insert : (es : List (ℕ × Option Source)) (k : ℕ) (v : Option Source) → AllByRecursion (λ (e : ℕ × Option Source). P e.1) es → P v → AllByRecursion (λ (e : ℕ × Option Source). P e.1) (insert_entry nat_eq es k v)
  all_insert [] k v all one = (one, tt)
  all_insert (e ∷ es) k v all one = by_cases (eqb k e.0) (all_insert es k v all.1 one)
    where
      by_cases : (b : Bool) → AllByRecursion (λ (e : ℕ × Option Source). P e.1) (insert_entry nat_eq es k v) → AllByRecursion (λ (e : ℕ × Option Source). P e.1) (cond b ((e.0, v) ∷ es) (e ∷ insert_entry nat_eq es k v))
      by_cases true rest = (one, all.1)
      by_cases false rest = (all.0, rest)

pub sources_more : (old new : List (ℕ × Option Source)) (k : ℕ) (v : Option Source) → AreSources old → HasLength v → new ≡ insert_entry nat_eq old k v → IsDistinct nat_eq (keys_of new) → AreSources new
sources_more old new k v are some is distinct =
    record { distinct = distinct; filled = subst (λ (es : List (ℕ × Option Source)). AllByRecursion (λ (e : ℕ × Option Source). HasLength e.1) es) (sym is) (all_insert HasLength old k v are.filled some) }

pub within_more : (bytes : List ℕ) (old new : List (ℕ × Option Source)) (k : ℕ) (v : Option Source) → EntriesWithin bytes old → StandsWithin bytes v → new ≡ insert_entry nat_eq old k v → EntriesWithin bytes new
within_more bytes old new k v all one is = subst (λ (es : List (ℕ × Option Source)). EntriesWithin bytes es) (sym is) (all_insert (StandsWithin bytes) old k v all one)

pub entries_put : (bytes : List ℕ) (es : List (ℕ × Option Source)) (k : ℕ) (v : Option Source) → entries_from bytes (insert_entry nat_eq es k v) ≡ insert_entry nat_eq (entries_from bytes es) k (outlined_content bytes v)
entries_put bytes [] k v = refl
entries_put bytes (e ∷ es) k v = by_cases (eqb k e.0) (entries_put bytes es k v)
  where
    by_cases : (b : Bool) → entries_from bytes (insert_entry nat_eq es k v) ≡ insert_entry nat_eq (entries_from bytes es) k (outlined_content bytes v)
        → entries_from bytes (cond b ((e.0, v) ∷ es) (e ∷ insert_entry nat_eq es k v)) ≡ cond b ((e.0, outlined_content bytes v) ∷ entries_from bytes es) ((e.0, outlined_content bytes e.1) ∷ insert_entry nat_eq (entries_from bytes es) k (outlined_content bytes v))
    by_cases true rest = refl
    by_cases false rest = ap (λ (x : List (ℕ × Content)). (e.0, outlined_content bytes e.1) ∷ x) rest

pub no_sources : (es : List (ℕ × Option Source)) → es ≡ [] → AreSources es
unfolding IsDistinct
no_sources es is = subst (λ (x : List (ℕ × Option Source)). AreSources x) (sym is) (record { distinct = tt; filled = tt })

-- ---- as changes

oids_outlined : (es : List (ℕ × Option Source)) → map (λ (c : OutlinedChange). c.oid) (map outlined_entry es) ≡ keys_of es
oids_outlined [] = refl
oids_outlined (e ∷ es) = ap (λ (ks : List ℕ). e.0 ∷ ks) (oids_outlined es)

all_changes : (P : Option Source → Type 0) (es : List (ℕ × Option Source)) → AllByRecursion (λ (e : ℕ × Option Source). P e.1) es → All (λ (c : OutlinedChange). P c.source) (map outlined_entry es)
all_changes P [] all = All-nil (λ (c : OutlinedChange). P c.source)
all_changes P (e ∷ es) all = All-cons (λ (c : OutlinedChange). P c.source) (outlined_entry e) (map outlined_entry es) all.0 (all_changes P es all.1)

pub changes_outlined : (es : List (ℕ × Option Source)) (changes : List OutlinedChange) → changes ≡ map outlined_entry es → AreSources es → AreOutlined changes
changes_outlined es changes is are =
    subst (λ (cs : List OutlinedChange). AreOutlined cs) (sym is)
    (record { distinct = subst (λ (ks : List ℕ). IsDistinct nat_eq ks) (sym (oids_outlined es)) are.distinct; filled = all_changes HasLength es are.filled })

pub changes_within : (bytes : List ℕ) (es : List (ℕ × Option Source)) (changes : List OutlinedChange) → changes ≡ map outlined_entry es → EntriesWithin bytes es → AllStandWithin bytes changes
changes_within bytes es changes is all = subst (λ (cs : List OutlinedChange). AllStandWithin bytes cs) (sym is) (all_changes (StandsWithin bytes) es all)

pub changes_are : (bytes : List ℕ) (es : List (ℕ × Option Source)) → map (outlined_change bytes) (map outlined_entry es) ≡ map as_change (entries_from bytes es)
changes_are bytes [] = refl
changes_are bytes (e ∷ es) = ap (λ (cs : List Change). outlined_change bytes (outlined_entry e) ∷ cs) (changes_are bytes es)

-- ---- with their contents

-- the first changes, so many, with a content for each
pub record ContentsSoFar (outlined : List OutlinedChange) (i : ℕ) (changes : List Change) : Type 0 where
  pub oids : map (λ (c : Change). c.oid) changes ≡ map (λ (c : OutlinedChange). c.oid) (take i outlined)
  pub filled : All (λ (c : Change). HasBytes c.content) changes

pub no_contents : (outlined : List OutlinedChange) (changes : List Change) → changes ≡ [] → ContentsSoFar outlined 0 changes
no_contents outlined changes is = subst (λ (cs : List Change). ContentsSoFar outlined 0 cs) (sym is) (record { oids = refl; filled = All-nil (λ (c : Change). HasBytes c.content) })

pub one_content : (outlined : List OutlinedChange) (i : ℕ) (old new : List Change) (c : OutlinedChange) (content : Content) → i < length outlined → c ≡ get_or outlined i c → HasBytes content → new ≡ old ++ record { oid = c.oid; content = content } ∷ [] → ContentsSoFar outlined i old → ContentsSoFar outlined (i + 1) new
one_content outlined i old new c content within at some is so_far =
    let one : Change = record { oid = c.oid; content = content } in
    record {
      oids = ap (map (λ (x : Change). x.oid)) is ∙ map-append (λ (x : Change). x.oid) old (one ∷ []) ∙ ap (λ (ks : List ℕ). ks ++ c.oid ∷ []) so_far.oids
          ∙ sym (ap (map (λ (x : OutlinedChange). x.oid)) (take_more outlined i c within) ∙ map-append (λ (x : OutlinedChange). x.oid) (take i outlined) (get_or outlined i c ∷ []) ∙ ap (λ (x : OutlinedChange). map (λ (y : OutlinedChange). y.oid) (take i outlined) ++ x.oid ∷ []) (sym at));
      filled = subst (λ (cs : List Change). All (λ (x : Change). HasBytes x.content) cs) (sym is)
          (All-append (λ (x : Change). HasBytes x.content) old (one ∷ []) so_far.filled (All-cons (λ (x : Change). HasBytes x.content) one [] some (All-nil (λ (x : Change). HasBytes x.content))));
    }

pub contents_formed : (outlined : List OutlinedChange) (i : ℕ) (changes : List Change) → take i outlined ≡ outlined → AreOutlined outlined → ContentsSoFar outlined i changes → AreFormed changes
contents_formed outlined i changes all are so_far = record {
  distinct = subst (λ (ks : List ℕ). IsDistinct nat_eq ks) (sym (so_far.oids ∙ ap (map (λ (x : OutlinedChange). x.oid)) all)) are.distinct;
  filled = so_far.filled;
}

-- and over the bytes each is the one that stands there
pub one_change : (bytes : List ℕ) (outlined : List OutlinedChange) (i : ℕ) (old new : List Change) (c : OutlinedChange) (content : Content) → i < length outlined → c ≡ get_or outlined i c → content ≡ outlined_content bytes c.source → new ≡ old ++ record { oid = c.oid; content = content } ∷ []
    → old ≡ map (outlined_change bytes) (take i outlined) → new ≡ map (outlined_change bytes) (take (i + 1) outlined)
one_change bytes outlined i old new c content within at content_is is so_far =
    is ∙ ap (λ (x : Content). old ++ record { oid = c.oid; content = x } ∷ []) content_is ∙ ap (λ (cs : List Change). cs ++ outlined_change bytes c ∷ []) so_far
    ∙ sym (ap (map (outlined_change bytes)) (take_more outlined i c within) ∙ map-append (outlined_change bytes) (take i outlined) (get_or outlined i c ∷ []) ∙ ap (λ (x : OutlinedChange). map (outlined_change bytes) (take i outlined) ++ outlined_change bytes x ∷ []) (sym at))
