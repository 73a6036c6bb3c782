-- What is written reads back.
use Rattle.std.proofs.Common.{◌≡◌, ℕ, ◌+◌, true, List, [], ◌∷◌, ◌++◌, length, drop, Option, Some, None, Ok, Err, refl, arith, sym, ◌∙◌, ap, subst, length-append}
use Rattle.std.specs.Prelude.{slice_get, IsSome}
use Rattle.std.proofs.lemmas.List.{drop_at, append-nil}
use Rattle.pickle_graph.specs.declared.node.Node.{Node}
use Rattle.pickle_graph.specs.declared.node.Node.TheVariants as kinds
use Rattle.pickle_reading.specs.declared.reading.TheConstants.{NODE_LIMIT}
use Rattle.pickle_graph.specs.Graph.{Graph}
use Rattle.pickle_reading.specs.Reading.{graph_at, graph_behind}
use Rattle.pickle_references.specs.References.{part_at}
use Rattle.pickle_graph.specs.Same.{IsCopy, AllCopies, IsSame}
use Rattle.pickle_writing.specs.Spelling.{Spelled, pickle_text}
use Rattle.pickle_round_trip.specs.Laws.{WrittenReadsAnywhere, WrittenReadsBehind}
use Rattle.pickle_references.specs.Named.{oids_of, IsLeft, NamedIsTold, PartIsLeft, CopiesAreNamed}
use Rattle.pickle_graph.specs.Class.{is_global, begins_with_global, is_class_node, is_class}
use Rattle.zb_record.specs.Records.{one_behind}
use Rattle.zb_record.specs.Laws.{IsRecord, WrittenRecordReadsBack}
use Rattle.zb_record.proofs.Read.{record-is_read}

-- ---- a copy of a class is a class

record Copied (origin : List ℕ) (g copy : List Node) (n m : ℕ) : Type 0 where
  node : Node
  here : slice_get copy n ≡ Some node
  is : IsCopy origin node (slice_get g m)

copied : (origin : List ℕ) (g copy : List Node) (ms : List ℕ) (n m : ℕ) → AllCopies origin g copy ms → slice_get ms n ≡ Some m → Copied origin g copy n m
copied origin g [] [] n m h e = absurd cc
copied origin g [] (k ∷ ms) n m h e = absurd h
copied origin g (x ∷ copy) [] n m h e = absurd h
copied origin g (x ∷ copy) (k ∷ ms) Rattle.std.proofs.Common.zero m h e = let same : k ≡ m = cc in record { node = x; here = refl; is = subst (λ (i : ℕ). IsCopy origin x (slice_get g i)) same h.0 }
copied origin g (x ∷ copy) (k ∷ ms) (Rattle.std.proofs.Common.suc n) m h e = let c = copied origin g copy ms n m h.1 e in record { node = c.node; here = c.here; is = c.is }

global-copy : (origin : List ℕ) (x : Node) (old : Option Node) → IsCopy origin x old → is_global old ≡ true → is_global (Some x) ≡ true
global-copy origin (kinds.Global a b) (Some (kinds.Global c d)) h e = refl
global-copy origin x (Some (kinds.Global c d)) h e = absurd h
global-copy origin x _ h e = absurd cc

class-copy : (origin : List ℕ) (g copy : List Node) (x : Node) (old : Option Node) → AllCopies origin g copy origin → IsCopy origin x old → is_class_node g old ≡ true → is_class_node copy (Some x) ≡ true
class-copy origin g copy (kinds.Tuple []) (Some (kinds.Tuple ms)) all h e = absurd (none ms h e)
  where
    none : (ms : List ℕ) → Rattle.pickle_graph.specs.Same.HaveOrigins origin [] ms → begins_with_global g ms ≡ true → ⊥
    none [] k f = cc
    none (m ∷ ms) k f = k
class-copy origin g copy (kinds.Tuple (n ∷ ns)) (Some (kinds.Tuple [])) all h e = absurd h
class-copy origin g copy (kinds.Tuple (n ∷ ns)) (Some (kinds.Tuple (m ∷ ms))) all h e =
    let c = copied origin g copy origin n m all h.0 in
    ap is_global c.here ∙ global-copy origin c.node (slice_get g m) c.is e
class-copy origin g copy (kinds.Global a b) (Some (kinds.Global c d)) all h e = refl
class-copy origin g copy x (Some (kinds.Tuple ms)) all h e = absurd h
class-copy origin g copy x (Some (kinds.Global c d)) all h e = absurd h
class-copy origin g copy x _ all h e = absurd cc

copy-is_class : (g copy : Graph) → IsSame g copy → is_class g ≡ true → is_class copy ≡ true
copy-is_class g copy s e =
    let c = copied s.origin g.nodes copy.nodes s.origin copy.root g.root s.each s.root in
    ap (is_class_node copy.nodes) c.here ∙ class-copy s.origin g.nodes copy.nodes c.node (slice_get g.nodes g.root) s.each c.is e

-- ---- two texts

pub record Texts (class state : Spelled) (text : List ℕ) : Type 0 where
  pub first : List ℕ
  pub second : List ℕ
  pub class_is : class ≡ Ok first
  pub state_is : state ≡ Ok second
  pub both : text ≡ first ++ second

abbrev spelled : List ℕ → Spelled
spelled text = Ok text

pub texts : (class state : Spelled) (text : List ℕ) → one_behind class state ≡ Ok text → Texts class state text
texts (Err e) state text h = absurd (let k : Err e ≡ spelled text = h in cc)
texts (Ok first) (Err e) text h = absurd (let k : Err e ≡ spelled text = h in cc)
texts (Ok first) (Ok second) text h = record { first = first; second = second; class_is = refl; state_is = refl; both = let k : spelled (first ++ second) ≡ spelled text = h in cc }

some-oids : (o : Option (List ℕ)) → IsSome o → (oids : List ℕ) × (o ≡ Some oids)
some-oids (Some oids) h = (oids, refl)
some-oids None h = absurd cc

-- behind nothing a pickle is read as the first one
pub first_is : (at : ℕ) (bytes : List ℕ) → graph_behind [] [] at bytes ≡ graph_at NODE_LIMIT at bytes
first_is at bytes = let e : NODE_LIMIT + 0 ≡ NODE_LIMIT = omega arith in ap (λ (n : ℕ). graph_at n at bytes) e

-- nothing may be left
pub none_left : IsLeft [] []
none_left = record { tuples = tt; puts = tt }

module _ (anywhere : WrittenReadsAnywhere) (behind : WrittenReadsBehind) (named : NamedIsTold) (left : PartIsLeft) (copies : CopiesAreNamed) where
  pub written-reads_back : WrittenRecordReadsBack
  written-reads_back class state text can spelling =
      let t = texts (pickle_text class) (pickle_text state) text spelling in
      let c = anywhere class t.first can.class_graph t.class_is can.class_room in
      let a = some-oids (oids_of class) can.class_named in
      let b = some-oids (oids_of state) can.state_named in
      let d = copies class c.copy a.0 c.same a.1 in
      let at : ℕ = length t.first in
      let rest : drop at text ≡ t.second = ap (drop at) t.both ∙ drop_at t.first t.second at refl in
      let whole : at + length t.second ≡ length text = sym (ap length t.both ∙ length-append t.first t.second) in
      let class_read : graph_behind [] [] 0 text ≡ Ok (c.copy, at) = first_is 0 text ∙ ap (graph_at NODE_LIMIT 0) t.both ∙ c.reads 0 t.second ∙ ap (λ (k : ℕ). Ok (c.copy, k)) (omega arith) in
      let first = named [] [] 0 text c.copy at d.0 none_left class_read d.1 in
      let is_left = left [] [] 0 text (record { pickle = c.copy; oids = d.0; behind = at }) first.0 none_left first.1 in
      let s = (behind class state c.copy first.0 t.second c.same c.few can.state_graph t.state_is).within can.state_room in
      let e = s.named b.0 b.1 in
      let state_read : graph_behind c.copy.nodes first.0 at t.second ≡ Ok (s.copy, length text) =
      ap (graph_behind c.copy.nodes first.0 at) (sym (append-nil t.second)) ∙ s.reads at [] ∙ ap (λ (k : ℕ). Ok (s.copy, k)) whole in
      let second = named c.copy.nodes first.0 at t.second s.copy (length text) e.0 is_left state_read e.1 in
      let is : IsRecord text c.copy s.copy d.0 e.0 = record {
        behind = at;
        memo = first.0;
        left = second.0;
        first = first.1;
        second = ap (part_at c.copy.nodes first.0 at) rest ∙ second.1;
        class_is = copy-is_class class c.copy c.same can.class_is;
      } in
      record { class_copy = c.copy; state_copy = s.copy; reads = (record-is_read text c.copy s.copy d.0 e.0 is).0; class_same = c.same; state_same = s.same }
