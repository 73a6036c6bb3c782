-- What can be written.
use Rattle.std.proofs.Common.{◌≡◌, ℕ, ℤ, ◌+◌, Bool, true, false, cond, List, [], ◌∷◌, ◌++◌, Option, Some, None, Result, Ok, Err, refl, sym, ap, subst, ◌∙◌}
use Rattle.std.specs.Prelude.{IfOk, IfSome}
use Rattle.pickle_writing.specs.declared.error.WriteError.{WriteError}
use Rattle.pickle_writing.specs.declared.error.WriteError.TheVariants as errors
use Rattle.pickle_graph.specs.declared.node.Node.TheVariants as nodes
use Rattle.pickle_writing.specs.declared.depth.TheConstants.{WALK_LIMIT}
use Rattle.pickle_graph.specs.Graph.{Graph}
use Rattle.pickle_writing.specs.Spelling.{Spelled, root_piece, pickle_text, pickled, spelling_of}
use Rattle.pickle_graph.specs.Walks.{has_walk}
use Rattle.bucket_state.specs.Written.{embedded_graph, leaf_graph}
use Rattle.bucket_state.specs.LoneText.{IsFlatTree, LoneIsSpelled}
use Rattle.btree_family.specs.Classes.{Class}
use Rattle.bucket_state.specs.Depths.{IsWrittenWhole, AreShallow}
use Rattle.btree_family.specs.declared.bucket.Item.{Item}
use Rattle.btree_family.specs.Buckets.{BucketContents}
use Rattle.bucket_state.specs.Depths.{IsShallow}
use Rattle.bucket_merge.specs.Kept.{EachValue, merge_values}
use Rattle.bucket_merge.specs.Merge.{merge_of}
use Rattle.zb_record.specs.declared.error.RecordError.{RecordError}
use Rattle.zb_record.specs.Records.{one_behind, object_text, record_of}
use Rattle.zb_resolve.specs.declared.state.State.{State}
use Rattle.zb_resolve.specs.Classes.{ClassRule, is_class_of}
use Rattle.zb_resolve.specs.States.{is_written, state_in, state_of, readable}
use Rattle.zb_model.specs.declared.refusal.Why.{Why}
use Rattle.zb_model.specs.declared.rules.ResolveError.{ResolveError}
use Rattle.zb_model.specs.declared.rules.ResolveError.TheVariants as asked
use Rattle.zb_resolve.specs.Answers.{◌>>=◌, AnswersFor}
use Rattle.zb_resolve.specs.Resolution.{graph_bytes, object_bytes, state_bytes, written_object, found_state, IsClassOf}

pub number_whole : (n : ℤ) → IsWrittenWhole (leaf_graph (nodes.Number n))
unfolding has_walk
number_whole n = refl

-- what is spelled, by the test of its depth
abbrev tested : Bool → List ℕ → Spelled
tested t text = pickled (cond {A = Result (List ℕ) WriteError} t (Err errors.TooDeep) (Ok text))

both_whole : (t u : Bool) (class state text : List ℕ) → one_behind (tested t class) (tested u state) ≡ Ok text → (t ≡ false) × (u ≡ false)
both_whole true u class state text h = cc
both_whole false true class state text h = cc
both_whole false false class state text h = (refl, refl)

texts : (class state : Graph) (text : List ℕ) → object_text class state ≡ Ok text → IsWrittenWhole class × IsWrittenWhole state
texts class state text h =
    both_whole (has_walk (WALK_LIMIT + 1) class.nodes class.root) (has_walk (WALK_LIMIT + 1) state.nodes state.root) (root_piece class.nodes class.root).text (root_piece state.nodes state.root).text text h

pub whole_text : (class state : Graph) → IsWrittenWhole class → IsWrittenWhole state → object_text class state ≡ Ok (object_bytes class state)
whole_text class state p q = (λ i. one_behind (tested (p i) (root_piece class.nodes class.root).text) (tested (q i) (root_piece state.nodes state.root).text))

-- ---- what isn't too deep

pub whole_is_written : (class state : Graph) → IsWrittenWhole class → IsWrittenWhole state → is_written (object_text class state) ≡ true
whole_is_written class state p q = ap is_written (whole_text class state p q)

pub deep_class : (class state : Graph) → has_walk (WALK_LIMIT + 1) class.nodes class.root ≡ true → is_written (object_text class state) ≡ false
deep_class class state h = rw h refl

pub deep_state : (class state : Graph) → IsWrittenWhole class → has_walk (WALK_LIMIT + 1) state.nodes state.root ≡ true → is_written (object_text class state) ≡ false
deep_state class state p h = rw (p, h) refl

-- ---- the bytes of a state

spelled_is : (t : Bool) (p text : List ℕ) → cond {A = Result (List ℕ) WriteError} t (Err errors.TooDeep) (Ok p) ≡ Ok text → p ≡ text
spelled_is true p text h = cc
spelled_is false p text h = cc

-- a tree of one leaf, by the law of such texts
pub lone_spelled : {E : Type 0} → LoneIsSpelled → (class : Class) (items : List Item) (found : Result (Option (List ℕ)) E) → IfOk found (λ o. IfSome o (IsFlatTree class items))
    → IfOk found (λ o. IfSome o (λ text. spelling_of (embedded_graph items).nodes (embedded_graph items).root ≡ Ok text))
lone_spelled law class items (Ok (Some text)) is = law class items is.flat ∙ ap Ok (sym is.spelled)
lone_spelled law class items (Ok None) is = tt
lone_spelled law class items (Err e) is = tt

-- what is spelled so, as a pickle
pub spelled_bytes : (g : Graph) (text : List ℕ) → spelling_of g.nodes g.root ≡ Ok text → graph_bytes g ≡ 0x80 ∷ 3 ∷ (text ++ 0x2e ∷ [])
spelled_bytes g text h = ap (λ (p : List ℕ). 0x80 ∷ 3 ∷ (p ++ 0x2e ∷ [])) (spelled_is (has_walk (WALK_LIMIT + 1) g.nodes g.root) (root_piece g.nodes g.root).text text h)

-- what is written of a graph that isn't too deep
pub whole_bytes : (g : Graph) → IsWrittenWhole g → pickle_text g ≡ Ok (graph_bytes g)
whole_bytes g p = rw p refl

pub state_behind : (class : Graph) (merged : Result Graph Why) (text : List ℕ) → state_bytes merged ≡ Ok text → (merged >>= written_object class) ≡ Ok (graph_bytes class ++ text)
state_behind class (Ok state) text h = (let same : graph_bytes state ≡ text = cc in ap (λ (t : List ℕ). Ok (graph_bytes class ++ t)) same)
state_behind class (Err e) text h = cc

-- why no state is made, as why nothing is
pub refused_behind : (class : Graph) (merged : Result Graph Why) (e : ResolveError) → AnswersFor {A = List ℕ} (Err e) (state_bytes merged) → AnswersFor {A = List ℕ} (Err e) (merged >>= written_object class)
refused_behind class merged asked.Memory h = tt
refused_behind class (Ok state) (asked.Refused why) h = cc
refused_behind class (Err w) (asked.Refused why) h = (let same : w ≡ why = cc in ap Err same)

-- ---- the class of a record that is read

written_text : (s : Spelled) → is_written s ≡ true → (text : List ℕ) × (s ≡ Ok text)
written_text (Ok text) h = (text, refl)
written_text (Err e) h = cc

found_is : (o : Option State) (found : State) → found_state o ≡ Ok found → o ≡ Some found
found_is None found h = cc
found_is (Some x) found h = (let same : x ≡ found = cc in ap Some same)

passes : (t u : Bool) (o : Option State) (found : State) → cond t (cond u o None) None ≡ Some found → u ≡ true
passes true true o found h = refl
passes true false o found h = cc
passes false u o found h = cc

class_by : (rule : ClassRule) (class : Graph) (r : Result (Graph × Graph) RecordError) (found : State) → IsClassOf class r → state_in rule r ≡ Some found → IsWrittenWhole class
class_by rule class (Err e) found is h = absurd is
class_by rule class (Ok object) found is h =
    let written = passes (is_class_of rule object.0) (is_written (object_text object.0 object.1)) (state_of rule object.1) found h in
    let text = written_text (object_text object.0 object.1) written in
    subst IsWrittenWhole is (texts object.0 object.1 text.0 text.1).0

pub class_whole : (rule : ClassRule) (class : Graph) (bytes : List ℕ) (found : State) → found_state (readable rule bytes) ≡ Ok found → IsClassOf class (record_of bytes) → IsWrittenWhole class
class_whole rule class bytes found h is = class_by rule class (record_of bytes) found is (found_is (readable rule bytes) found h)

-- ---- merged values

each_shallow : (n : ℕ) (items : List Item) → AreShallow n items → EachValue (IsShallow n) items
each_shallow n [] h = tt
each_shallow n (item ∷ items) h = (h.0, each_shallow n items h.1)

all_shallow : (n : ℕ) (items : List Item) → EachValue (IsShallow n) items → AreShallow n items
all_shallow n [] h = tt
all_shallow n (item ∷ items) h = (h.0, all_shallow n items h.1)

pub merged_shallow : (n : ℕ) (a b c m : BucketContents) → AreShallow n b.items → AreShallow n c.items → merge_of a b c ≡ Ok m → AreShallow n m.items
merged_shallow n a b c m p q e = all_shallow n m.items (merge_values (IsShallow n) a b c m (each_shallow n b.items p) (each_shallow n c.items q) e)
