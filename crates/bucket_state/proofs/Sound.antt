-- What is read of a state may stand in a bucket.
use Rattle.std.proofs.Common.{◌≡◌, ℕ, ◌<◌, Bool, true, false, List, [], ◌∷◌, Option, Some, None, Ok, Err, refl, ◌∙◌, ap, cond, length, subst, ◌==◌, zero, suc, arith}
use Rattle.std.specs.Prelude.{slice_get}
use Rattle.std.specs.Option.{option_map, option_and_then}
use Rattle.std.specs.Ordering.{is_lt}
use Rattle.std.specs.Cmp.{first_so}
use Rattle.pickle_graph.specs.declared.node.Node.{Node}
use Rattle.pickle_graph.specs.declared.node.Node.TheVariants as nodes
use Rattle.pickle_graph.specs.Graph.{IsGraph, IsNode, AreNodes}
use Rattle.pickle_writing.specs.Spelling.{Spelled, spelling_of}
use Rattle.btree_family.specs.declared.key.Key.{Key}
use Rattle.btree_family.specs.declared.key.Key.TheVariants as keys
use Rattle.btree_family.specs.declared.table.KeyKind.{KeyKind}
use Rattle.btree_family.specs.Families.{key_fits}
use Rattle.bucket_state.specs.Writable.{IsWritable, AreWritable}
use Rattle.btree_family.specs.declared.table.ValueKind.{ValueKind}
use Rattle.btree_family.specs.Classes.{Class}
use Rattle.btree_family.specs.declared.bucket.Item.{Item}
use Rattle.btree_family.specs.Keys.{key_cmp, rank_of}
use Rattle.btree_family.specs.Rising.{Rises}
use Rattle.btree_family.specs.Buckets.{IsBucket, IsSpelling, IsValue, AreValues, keys_of}
use Rattle.bucket_state.specs.declared.entries.Entry.{Entry}
use Rattle.bucket_state.specs.States.{found_both, found_all, follows, stand_in_row, standing_items, spelled_text, value_fits, fitting_value, family_value_at, entry_value, key_in, fitting_key, key_at, entry_item, member_items, entries_in, has_values}

-- what a test lets pass
pub passed : {X : Type 0} (t : Bool) (x y : X) → cond t (Some x) None ≡ Some y → (t ≡ true) × (x ≡ y)
passed true x y h = (refl, cc)
passed false x y h = cc

-- a test, and one behind it
both_pass : (t b : Bool) → cond t b false ≡ true → (t ≡ true) × (b ≡ true)
both_pass true b h = (refl, h)
both_pass false b h = cc

rises_by : (before : Option Key) (keys : List Key) → stand_in_row before keys ≡ true → Rises before keys
rises_by before [] h = tt
rises_by None (key ∷ keys) h = (refl, rises_by (Some key) keys h)
rises_by (Some low) (key ∷ keys) h =
    let p = both_pass (follows (Some low) key) (stand_in_row (Some key) keys) h in
    (first_so (is_lt (key_cmp low key)) (rank_of low == rank_of key) p.0, rises_by (Some key) keys p.1)

-- a number in the list's range
pub in_range : {X : Type 0} (xs : List X) (n : ℕ) (x : X) → slice_get xs n ≡ Some x → n < length xs
in_range [] n x h = cc
in_range (y ∷ ys) zero x h = omega arith
in_range (y ∷ ys) (suc n) x h = omega (arith, in_range ys n x h)

spelled : (ns : List Node) (root n : ℕ) (s : Spelled) (text : List ℕ) → IsGraph ns root → n < length ns → spelling_of ns n ≡ s → spelled_text s ≡ Some text → IsSpelling text
spelled ns root n (Ok out) text sound low e h =
    let same : out ≡ text = cc in
    record { graph = record { nodes = ns; root = n }; sound = record { each = sound.each; rooted = low }; spelled = e ∙ ap Ok same }
spelled ns root n (Err e) text sound low is h = cc

value_spelled : (kind : ValueKind) (ns : List Node) (root n : ℕ) (o : Option Node) (text : List ℕ) → IsGraph ns root → slice_get ns n ≡ o → option_and_then (fitting_value kind ns n) o ≡ Some text → IsSpelling text
value_spelled kind ns root n None text sound e h = cc
value_spelled kind ns root n (Some node) text sound e h = by_test (value_fits kind node) h
  where
    by_test : (t : Bool) → cond t (spelled_text (spelling_of ns n)) None ≡ Some text → IsSpelling text
    by_test true g = spelled ns root n (spelling_of ns n) text sound (in_range ns n node e) refl g
    by_test false g = cc

entry_spelled : (kind : ValueKind) (ns : List Node) (root : ℕ) (value : Option ℕ) (found : Option (List ℕ)) → IsGraph ns root → entry_value kind ns value ≡ Some found → IsValue found
entry_spelled kind ns root None None sound h = tt
entry_spelled kind ns root None (Some text) sound h = cc
entry_spelled kind ns root (Some n) found sound h = by_value (family_value_at kind ns n) refl h
  where
    by_value : (o : Option (List ℕ)) → family_value_at kind ns n ≡ o → option_map (λ text. Some text) o ≡ Some found → IsValue found
    by_value None e g = cc
    by_value (Some text) e g =
        let same : Some text ≡ found = cc in
        subst IsValue same (value_spelled kind ns root n (slice_get ns n) text sound refl e)

-- what is found for both
pub of_both : {A B C : Type 0} (f : A → B → C) (a : Option A) (b : Option B) (c : C) → found_both f a b ≡ Some c → (x : A) × (y : B) × (a ≡ Some x) × (b ≡ Some y) × (f x y ≡ c)
of_both f None b c h = cc
of_both f (Some x) None c h = cc
of_both f (Some x) (Some y) c h = let same : f x y ≡ c = cc in (x, y, refl, refl, same)

all_spelled : (class : Class) (ns : List Node) (root : ℕ) (entries : List Entry) (items : List Item) → IsGraph ns root → found_all (entry_item class ns) entries ≡ Some items → AreValues items
all_spelled class ns root [] [] sound h = tt
all_spelled class ns root [] (item ∷ items) sound h = cc
all_spelled class ns root (entry ∷ entries) items sound h =
    let all = of_both (λ y ys. y ∷ ys) (entry_item class ns entry) (found_all (entry_item class ns) entries) items h in
    let parts = of_both (λ key value. record { key = key; value = value }) (key_at class.key ns entry.key) (entry_value class.value ns entry.value) all.0 all.2 in
    let value : parts.1 ≡ all.0.value = ap (λ (item : Item). item.value) parts.4 in
    subst AreValues all.4 (subst IsValue value (entry_spelled class.value ns root entry.value parts.1 sound parts.3), all_spelled class ns root entries all.1 sound all.3)

pub items_bucket : (class : Class) (ns : List Node) (root : ℕ) (members : List ℕ) (items : List Item) → IsGraph ns root → member_items class ns members ≡ Some items → IsBucket items
items_bucket class ns root members items sound h = by_entries (entries_in (has_values class.kind) members) h
  where
    by_items : (entries : List Entry) (o : Option (List Item)) → found_all (entry_item class ns) entries ≡ o → option_and_then standing_items o ≡ Some items → IsBucket items
    by_items entries None e g = cc
    by_items entries (Some found) e g =
        let p = passed (stand_in_row None (keys_of found)) found items g in
        subst IsBucket p.1 (record { rises = rises_by None (keys_of found) p.0; spelled = all_spelled class ns root entries found sound e })

    by_entries : (o : Option (List Entry)) → option_and_then standing_items (option_and_then (found_all (entry_item class ns)) o) ≡ Some items → IsBucket items
    by_entries None g = cc
    by_entries (Some entries) g = by_items entries (found_all (entry_item class ns) entries) refl g

-- ---- keys of a graph can be written

node_at : (ns rest : List Node) (n : ℕ) (node : Node) → AreNodes ns rest → slice_get rest n ≡ Some node → IsNode ns node
node_at ns [] n found all h = cc
node_at ns (first ∷ rest) zero node all h = let same : first ≡ node = cc in subst (IsNode ns) same all.0
node_at ns (first ∷ rest) (suc n) node all h = node_at ns rest n node all.1 h

key_writable : (ns : List Node) (node : Node) (key : Key) → IsNode ns node → key_in (Some node) ≡ Some key → IsWritable key
key_writable ns (nodes.Text text) key is h = let same : keys.Text text ≡ key = cc in subst IsWritable same is
key_writable ns (nodes.Bytes bytes) key is h = let same : keys.Bytes bytes ≡ key = cc in subst IsWritable same is
key_writable ns (nodes.Number n) key is h = let same : keys.Number n ≡ key = cc in subst IsWritable same tt
key_writable ns nodes.None key is h = cc
key_writable ns (nodes.Bool b) key is h = cc
key_writable ns (nodes.Wide b) key is h = cc
key_writable ns (nodes.Float b) key is h = cc
key_writable ns (nodes.OldText b) key is h = cc
key_writable ns (nodes.Tuple b) key is h = cc
key_writable ns (nodes.List b) key is h = cc
key_writable ns (nodes.Dict b) key is h = cc
key_writable ns (nodes.Global a b) key is h = cc
key_writable ns (nodes.Reference b) key is h = cc
key_writable ns (nodes.Object a b c d) key is h = cc

fitting_writable : (ns : List Node) (root n : ℕ) (kind : KeyKind) (o : Option Node) (key : Key) → IsGraph ns root → slice_get ns n ≡ o → option_and_then (fitting_key kind) (key_in o) ≡ Some key → IsWritable key
fitting_writable ns root n kind None key sound e h = cc
fitting_writable ns root n kind (Some node) key sound e h = by_key (key_in (Some node)) refl h
  where
    by_key : (k : Option Key) → key_in (Some node) ≡ k → option_and_then (fitting_key kind) k ≡ Some key → IsWritable key
    by_key None is g = cc
    by_key (Some found) is g =
        let p = passed (key_fits kind found) found key g in
        subst IsWritable p.1 (key_writable ns node found (node_at ns ns n node sound.each e) is)

all_writable : (class : Class) (ns : List Node) (root : ℕ) (entries : List Entry) (items : List Item) → IsGraph ns root → found_all (entry_item class ns) entries ≡ Some items → AreWritable (keys_of items)
all_writable class ns root [] [] sound h = tt
all_writable class ns root [] (item ∷ items) sound h = cc
all_writable class ns root (entry ∷ entries) items sound h =
    let all = of_both (λ y ys. y ∷ ys) (entry_item class ns entry) (found_all (entry_item class ns) entries) items h in
    let parts = of_both (λ key value. record { key = key; value = value }) (key_at class.key ns entry.key) (entry_value class.value ns entry.value) all.0 all.2 in
    let key : parts.0 ≡ all.0.key = ap (λ (item : Item). item.key) parts.4 in
    let writable : IsWritable parts.0 = fitting_writable ns root entry.key class.key (slice_get ns entry.key) parts.0 sound refl parts.2 in
    subst (λ (x : List Item). AreWritable (keys_of x)) all.4 (subst IsWritable key writable, all_writable class ns root entries all.1 sound all.3)

pub items_writable : (class : Class) (ns : List Node) (root : ℕ) (members : List ℕ) (items : List Item) → IsGraph ns root → member_items class ns members ≡ Some items → AreWritable (keys_of items)
items_writable class ns root members items sound h = by_entries (entries_in (has_values class.kind) members) h
  where
    by_items : (entries : List Entry) (o : Option (List Item)) → found_all (entry_item class ns) entries ≡ o → option_and_then standing_items o ≡ Some items → AreWritable (keys_of items)
    by_items entries None e g = cc
    by_items entries (Some found) e g =
        let p = passed (stand_in_row None (keys_of found)) found items g in
        subst (λ (x : List Item). AreWritable (keys_of x)) p.1 (all_writable class ns root entries found sound e)

    by_entries : (o : Option (List Entry)) → option_and_then standing_items (option_and_then (found_all (entry_item class ns)) o) ≡ Some items → AreWritable (keys_of items)
    by_entries None g = cc
    by_entries (Some entries) g = by_items entries (found_all (entry_item class ns) entries) refl g
