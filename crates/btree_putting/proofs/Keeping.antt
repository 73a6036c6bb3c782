-- Records of puts.
use Rattle.std.proofs.Common.{◌≡◌, ℕ, zero, suc, ◌+◌, ◌≤◌, drop, length, arith, Bool, true, false, List, [], ◌∷◌, Option, Some, None, Result, Ok, Err, refl, sym, ◌∙◌, ap, subst}
use Rattle.std.specs.Prelude.{◌&&◌, if◌then◌else◌, slice_get}
use Rattle.pickle_graph.specs.Graph.{Graph, IsGraph}
use Rattle.pickle_writing.specs.Spelling.{Spelled}
use Rattle.btree_family.specs.Classes.{Class}
use Rattle.zb_record.specs.declared.error.RecordError.{RecordError}
use Rattle.zb_record.specs.declared.record.ObjectRecord.{ObjectRecord}
use Rattle.pickle_graph.specs.Class.{is_class}
use Rattle.zb_record.specs.Records.{record_of, object_text}
use Rattle.btree_shapes.specs.Spaces.{IsStorable, record_bytes}
use Rattle.btree_putting.specs.declared.puts.Put.{Put}
use Rattle.btree_putting.specs.Writing.{node_writable, node_graph, node_state, AreNodeValues}
use Rattle.btree_putting.specs.Puts.{reads_as, text_reads_as, state_reads_as, keeps, all_keep, IsSoundPut, AreSound, state_bytes, put_bytes}
use Rattle.btree_putting.specs.Storing.{IsRecordFor, IsSoundRecord}

pub no_state : (class leaf : Class) (put : Put) → node_writable put.node ≡ false → keeps class leaf put ≡ false
no_state class leaf put e = ap (λ b. state_reads_as class put (if b then Some (node_graph class leaf put.leaves put.node) else None)) e

some_state : (class leaf : Class) (put : Put) → node_writable put.node ≡ true → node_state class leaf put.leaves put.node ≡ Some (node_graph class leaf put.leaves put.node)
some_state class leaf put e = ap (λ b. if b then Some (node_graph class leaf put.leaves put.node) else None) e

state_no_class : (class : Class) (put : Put) (o : Option Graph) → is_class put.class ≡ false → state_reads_as class put o ≡ false
state_no_class class put None n = refl
state_no_class class put (Some state) n = ap (λ b. b && text_reads_as class put (object_text put.class state)) n

pub no_class : (class leaf : Class) (put : Put) → is_class put.class ≡ false → keeps class leaf put ≡ false
no_class class leaf put n = state_no_class class put (node_state class leaf put.leaves put.node) n

pub is_record : (class leaf : Class) (put : Put) (object : ObjectRecord) → object.class ≡ put.class → object.state ≡ node_graph class leaf put.leaves put.node → node_writable put.node ≡ true → is_class put.class ≡ true → IsRecordFor class leaf put object
is_record class leaf put object c s w i = record { class_same = c; class_is = i; state_is = some_state class leaf put w ∙ ap Some (sym s) }

some_is : (a b : Graph) → Some a ≡ Some b → a ≡ b
some_is a b e = cc

pub sound_record : (class leaf : Class) (put : Put) (object : ObjectRecord) → IsRecordFor class leaf put object → IsGraph put.class.nodes put.class.root → IsGraph object.state.nodes object.state.root → node_writable put.node ≡ true → AreNodeValues put.node → IsSoundRecord class leaf put object
sound_record class leaf put object r c s w v =
    let same : object.state ≡ node_graph class leaf put.leaves put.node = some_is object.state (node_graph class leaf put.leaves put.node) (sym r.state_is ∙ some_state class leaf put w) in
    record { is_for = r; sound = record { class_graph = c; state_graph = subst (λ (g : Graph). IsGraph g.nodes g.root) same s; values = v } }

pub by_record : (class leaf : Class) (put : Put) (object : ObjectRecord) → IsRecordFor class leaf put object → keeps class leaf put ≡ text_reads_as class put (object_text object.class object.state)
by_record class leaf put object r =
    ap (state_reads_as class put) r.state_is
    ∙ ap (λ b. b && text_reads_as class put (object_text put.class object.state)) r.class_is
    ∙ ap (λ c. text_reads_as class put (object_text c object.state)) (sym r.class_same)

-- ---- a put that is kept

-- a text that reads as a put is a record
storable_text : (class : Class) (put : Put) (a b : Graph) (text : List ℕ) (r : Result (Graph × Graph) RecordError) → object_text a b ≡ Ok text → record_of text ≡ r → reads_as class put r ≡ true → IsStorable a b
storable_text class put a b text (Err e) w r t = cc
storable_text class put a b text (Ok copy) w r t = record { text = text; written = w; class_copy = copy.0; state_copy = copy.1; reads = r }

storable_spelled : (class : Class) (put : Put) (a b : Graph) (spelled : Spelled) → object_text a b ≡ spelled → text_reads_as class put spelled ≡ true → IsStorable a b
storable_spelled class put a b (Err e) w t = cc
storable_spelled class put a b (Ok text) w t = storable_text class put a b text (record_of text) w refl t

pub kept_storable : (class leaf : Class) (put : Put) (object : ObjectRecord) → IsRecordFor class leaf put object → keeps class leaf put ≡ true → IsStorable object.class object.state
kept_storable class leaf put object r k = storable_spelled class put object.class object.state (object_text object.class object.state) refl (sym (by_record class leaf put object r) ∙ k)

pub kept_bytes : (class leaf : Class) (put : Put) (object : ObjectRecord) → IsRecordFor class leaf put object → record_bytes object.class object.state ≡ put_bytes class leaf put
kept_bytes class leaf put object r = ap (λ c. record_bytes c object.state) r.class_same ∙ ap (state_bytes put.class) (sym r.state_is)
