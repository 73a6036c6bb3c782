-- Graphs that are the same hold the same bucket, and the same tree's object.
use Rattle.std.proofs.Common.{◌≡◌, ℕ, cond, List, [], ◌∷◌, Option, Some, None, refl, sym, ◌∙◌, ap, subst}
use Rattle.std.specs.Prelude.{slice_get}
use Rattle.std.specs.Option.{option_and_then}
use Rattle.pickle_graph.specs.declared.node.Node.{Node}
use Rattle.pickle_graph.specs.declared.node.Node.TheVariants as nodes
use Rattle.pickle_references.specs.Named.{with_name}
use Rattle.pickle_references.specs.References.{oid_in, oid_of, named_first, named_by}
use Rattle.pickle_graph.specs.Same.{HasOrigin, HaveOrigins, IsCopy, AllCopies, StandOnce}
use Rattle.pickle_writing.specs.Spelling.{spelling_of}
use Rattle.btree_family.specs.declared.key.Key.TheVariants as keys
use Rattle.btree_family.specs.declared.table.KeyKind.{KeyKind}
use Rattle.btree_family.specs.declared.table.ValueKind.{ValueKind}
use Rattle.btree_family.specs.declared.table.ValueKind.TheVariants as values
use Rattle.btree_family.specs.Classes.{Class}
use Rattle.bucket_state.specs.declared.tree.Branch.{Branch}
use Rattle.bucket_state.specs.declared.tree.TreeState.TheVariants.{Children}
use Rattle.bucket_state.specs.States.{found_both, tuple_in, members_at, key_in, fitting_key, key_at, spelled_text, fitting_value, family_value_at, member_items, state_items, one_oid, link_in, link_at, with_next, linked, bucket_in, bucket_at}
use Rattle.bucket_state.specs.Trees.{children_in, inner_in, lone_leaf, embedded_in, tree_members, tree_in}
use Rattle.bucket_state.specs.Laws.{node_fits, SameHoldsTheSame}
use Rattle.bucket_state.proofs.Members.{EachPair, members_same, tails_same}
use Rattle.bucket_state.proofs.Parts.{copied}
use Rattle.bucket_state.proofs.Spelled.{same_spelled}

-- ---- one node

-- items of a tuple, one by one, or no tuple
abbrev TuplesAlike : List ℕ → Option (List ℕ) → Option (List ℕ) → Type 0
TuplesAlike origin None None = Unit {0}
TuplesAlike origin (Some xs) (Some ys) = HaveOrigins origin xs ys
TuplesAlike origin _ _ = ⊥

tuples_alike : (origin : List ℕ) (x : Node) (o : Option Node) → IsCopy origin x o → TuplesAlike origin (tuple_in (Some x)) (tuple_in o)
tuples_alike origin (nodes.Tuple ns) (Some (nodes.Tuple ms)) h = h
tuples_alike origin nodes.None (Some nodes.None) h = tt
tuples_alike origin (nodes.Bool b) (Some (nodes.Bool c)) h = tt
tuples_alike origin (nodes.Number b) (Some (nodes.Number c)) h = tt
tuples_alike origin (nodes.Wide b) (Some (nodes.Wide c)) h = tt
tuples_alike origin (nodes.Float b) (Some (nodes.Float c)) h = tt
tuples_alike origin (nodes.Bytes b) (Some (nodes.Bytes c)) h = tt
tuples_alike origin (nodes.OldText b) (Some (nodes.OldText c)) h = tt
tuples_alike origin (nodes.Text b) (Some (nodes.Text c)) h = tt
tuples_alike origin (nodes.List b) (Some (nodes.List c)) h = tt
tuples_alike origin (nodes.Dict b) (Some (nodes.Dict c)) h = tt
tuples_alike origin (nodes.Global a b) (Some (nodes.Global c d)) h = tt
tuples_alike origin (nodes.Reference b) (Some (nodes.Reference c)) h = tt
tuples_alike origin (nodes.Object a b c d) (Some (nodes.Object e f g i)) h = tt
tuples_alike origin _ _ h = absurd h

keys_alike : (origin : List ℕ) (x : Node) (o : Option Node) → IsCopy origin x o → key_in (Some x) ≡ key_in o
keys_alike origin (nodes.Tuple ns) (Some (nodes.Tuple ms)) h = refl
keys_alike origin nodes.None (Some nodes.None) h = refl
keys_alike origin (nodes.Bool b) (Some (nodes.Bool c)) h = refl
keys_alike origin (nodes.Number b) (Some (nodes.Number c)) h = ap (λ n. Some (keys.Number n)) h
keys_alike origin (nodes.Wide b) (Some (nodes.Wide c)) h = refl
keys_alike origin (nodes.Float b) (Some (nodes.Float c)) h = refl
keys_alike origin (nodes.Bytes b) (Some (nodes.Bytes c)) h = ap (λ n. Some (keys.Bytes n)) h
keys_alike origin (nodes.OldText b) (Some (nodes.OldText c)) h = refl
keys_alike origin (nodes.Text b) (Some (nodes.Text c)) h = ap (λ n. Some (keys.Text n)) h
keys_alike origin (nodes.List b) (Some (nodes.List c)) h = refl
keys_alike origin (nodes.Dict b) (Some (nodes.Dict c)) h = refl
keys_alike origin (nodes.Global a b) (Some (nodes.Global c d)) h = refl
keys_alike origin (nodes.Reference b) (Some (nodes.Reference c)) h = refl
keys_alike origin (nodes.Object a b c d) (Some (nodes.Object e f g i)) h = refl
keys_alike origin _ _ h = absurd h

oids_alike : (origin : List ℕ) (x : Node) (o : Option Node) → IsCopy origin x o → oid_of (Some x) ≡ oid_of o
oids_alike origin (nodes.Tuple ns) (Some (nodes.Tuple ms)) h = refl
oids_alike origin nodes.None (Some nodes.None) h = refl
oids_alike origin (nodes.Bool b) (Some (nodes.Bool c)) h = refl
oids_alike origin (nodes.Number b) (Some (nodes.Number c)) h = refl
oids_alike origin (nodes.Wide b) (Some (nodes.Wide c)) h = refl
oids_alike origin (nodes.Float b) (Some (nodes.Float c)) h = refl
oids_alike origin (nodes.Bytes b) (Some (nodes.Bytes c)) h = ap oid_in h
oids_alike origin (nodes.OldText b) (Some (nodes.OldText c)) h = ap oid_in h
oids_alike origin (nodes.Text b) (Some (nodes.Text c)) h = refl
oids_alike origin (nodes.List b) (Some (nodes.List c)) h = refl
oids_alike origin (nodes.Dict b) (Some (nodes.Dict c)) h = refl
oids_alike origin (nodes.Global a b) (Some (nodes.Global c d)) h = refl
oids_alike origin (nodes.Reference b) (Some (nodes.Reference c)) h = refl
oids_alike origin (nodes.Object a b c d) (Some (nodes.Object e f g i)) h = refl
oids_alike origin _ _ h = absurd h

no_copy : (origin : List ℕ) (x : Node) → IsCopy origin x None → ⊥
no_copy origin nodes.None h = h
no_copy origin _ h = h

-- an object that may be a value fits where the one that it stands for does
fits_alike : (kind : ValueKind) (origin : List ℕ) (x : Node) (o : Option Node) → IsCopy origin x o → node_fits kind (Some x) ≡ node_fits kind o
fits_alike kind origin x None h = absurd (no_copy origin x h)
fits_alike values.Object origin x (Some y) h = refl
fits_alike kind origin (nodes.Tuple ns) (Some (nodes.Tuple ms)) h = refl
fits_alike kind origin (nodes.List ns) (Some (nodes.List ms)) h = refl
fits_alike kind origin (nodes.Dict ns) (Some (nodes.Dict ms)) h = refl
fits_alike kind origin (nodes.Reference ns) (Some (nodes.Reference ms)) h = refl
fits_alike kind origin (nodes.Object a b c d) (Some (nodes.Object e f g i)) h = refl
fits_alike kind origin nodes.None (Some nodes.None) h = refl
fits_alike kind origin (nodes.Bool b) (Some (nodes.Bool c)) h = ap (λ x. node_fits kind (Some (nodes.Bool x))) h
fits_alike kind origin (nodes.Number b) (Some (nodes.Number c)) h = ap (λ x. node_fits kind (Some (nodes.Number x))) h
fits_alike kind origin (nodes.Wide b) (Some (nodes.Wide c)) h = ap (λ x. node_fits kind (Some (nodes.Wide x))) h
fits_alike kind origin (nodes.Float b) (Some (nodes.Float c)) h = ap (λ x. node_fits kind (Some (nodes.Float x))) h
fits_alike kind origin (nodes.Bytes b) (Some (nodes.Bytes c)) h = ap (λ x. node_fits kind (Some (nodes.Bytes x))) h
fits_alike kind origin (nodes.OldText b) (Some (nodes.OldText c)) h = ap (λ x. node_fits kind (Some (nodes.OldText x))) h
fits_alike kind origin (nodes.Text b) (Some (nodes.Text c)) h = ap (λ x. node_fits kind (Some (nodes.Text x))) h
fits_alike kind origin (nodes.Global a b) (Some (nodes.Global c d)) h = ap (λ x. node_fits kind (Some (nodes.Global x b))) h.0 ∙ ap (λ x. node_fits kind (Some (nodes.Global c x))) h.1
fits_alike kind origin _ _ h = absurd h

-- a value, whether it fits and how it is spelled
by_fit : (kind : ValueKind) (ns : List Node) (n : ℕ) (o : Option Node) → option_and_then (fitting_value kind ns n) o ≡ cond (node_fits kind o) (spelled_text (spelling_of ns n)) None
by_fit kind ns n None = refl
by_fit kind ns n (Some x) = refl

-- ---- one graph and another

origins_pair : (origin xs ys : List ℕ) → HaveOrigins origin xs ys → EachPair (HasOrigin origin) xs ys
origins_pair origin [] [] h = tt
origins_pair origin (x ∷ xs) (y ∷ ys) h = (h.0, origins_pair origin xs ys h.1)
origins_pair origin [] (y ∷ ys) h = absurd h
origins_pair origin (x ∷ xs) [] h = absurd h

module _ (origin : List ℕ) (ns cs : List Node) (all : AllCopies origin ns cs origin) (once : StandOnce ns origin) where
  key_same : (kind : KeyKind) (x y : ℕ) → HasOrigin origin x y → key_at kind cs x ≡ key_at kind ns y
  key_same kind x y h =
      let c = copied origin ns cs origin x y all h in
      ap (λ (o : Option Node). option_and_then (fitting_key kind) (key_in o)) c.1 ∙ ap (option_and_then (fitting_key kind)) (keys_alike origin c.0 (slice_get ns y) c.2)

  value_same : (kind : ValueKind) (x y : ℕ) → HasOrigin origin x y → family_value_at kind cs x ≡ family_value_at kind ns y
  value_same kind x y h =
      let c = copied origin ns cs origin x y all h in
      let spelled : spelling_of cs x ≡ spelling_of ns y = same_spelled (record { nodes = ns; root = y }) (record { nodes = cs; root = x }) (record { origin = origin; each = all; root = h; once = once }) in
      let fits : node_fits kind (slice_get cs x) ≡ node_fits kind (slice_get ns y) = ap (node_fits kind) c.1 ∙ fits_alike kind origin c.0 (slice_get ns y) c.2 in
      by_fit kind cs x (slice_get cs x) ∙ (λ i. cond (fits i) (spelled_text (spelled i)) None) ∙ sym (by_fit kind ns y (slice_get ns y))

  tuple_same : (x y : ℕ) → HasOrigin origin x y → TuplesAlike origin (members_at cs x) (members_at ns y)
  tuple_same x y h =
      let c = copied origin ns cs origin x y all h in
      subst (λ (o : Option Node). TuplesAlike origin (tuple_in o) (members_at ns y)) (sym c.1) (tuples_alike origin c.0 (slice_get ns y) c.2)

  first_same : (xs ys : List ℕ) → HaveOrigins origin xs ys → named_first cs xs ≡ named_first ns ys
  first_same [] [] h = refl
  first_same (x ∷ xs) (y ∷ ys) h = let c = copied origin ns cs origin x y all h.0 in ap oid_of c.1 ∙ oids_alike origin c.0 (slice_get ns y) c.2
  first_same [] (y ∷ ys) h = absurd h
  first_same (x ∷ xs) [] h = absurd h

  named_same : (x : Node) (o : Option Node) → IsCopy origin x o → named_by cs (Some x) ≡ named_by ns o
  named_same (nodes.Tuple xs) (Some (nodes.Tuple ys)) h = first_same xs ys h
  named_same (nodes.List xs) (Some (nodes.List ys)) h = refl
  named_same nodes.None (Some nodes.None) h = refl
  named_same (nodes.Bool b) (Some (nodes.Bool c)) h = refl
  named_same (nodes.Number b) (Some (nodes.Number c)) h = refl
  named_same (nodes.Wide b) (Some (nodes.Wide c)) h = refl
  named_same (nodes.Float b) (Some (nodes.Float c)) h = refl
  named_same (nodes.Bytes b) (Some (nodes.Bytes c)) h = ap oid_in h
  named_same (nodes.OldText b) (Some (nodes.OldText c)) h = ap oid_in h
  named_same (nodes.Text b) (Some (nodes.Text c)) h = refl
  named_same (nodes.Dict b) (Some (nodes.Dict c)) h = refl
  named_same (nodes.Global a b) (Some (nodes.Global c d)) h = refl
  named_same (nodes.Reference b) (Some (nodes.Reference c)) h = refl
  named_same (nodes.Object a b c d) (Some (nodes.Object e f g i)) h = refl
  named_same _ _ h = absurd h

  link_of : (x : Node) (o : Option Node) → IsCopy origin x o → link_in cs (Some x) ≡ link_in ns o
  link_of (nodes.Reference a) (Some (nodes.Reference b)) h =
      let c = copied origin ns cs origin a b all h in
      ap (λ (o : Option Node). one_oid (with_name (named_by cs o) (Some []))) c.1 ∙ ap (λ n. one_oid (with_name n (Some []))) (named_same c.0 (slice_get ns b) c.2)
  link_of (nodes.Tuple xs) (Some (nodes.Tuple ys)) h = refl
  link_of (nodes.List xs) (Some (nodes.List ys)) h = refl
  link_of nodes.None (Some nodes.None) h = refl
  link_of (nodes.Bool b) (Some (nodes.Bool c)) h = refl
  link_of (nodes.Number b) (Some (nodes.Number c)) h = refl
  link_of (nodes.Wide b) (Some (nodes.Wide c)) h = refl
  link_of (nodes.Float b) (Some (nodes.Float c)) h = refl
  link_of (nodes.Bytes b) (Some (nodes.Bytes c)) h = refl
  link_of (nodes.OldText b) (Some (nodes.OldText c)) h = refl
  link_of (nodes.Text b) (Some (nodes.Text c)) h = refl
  link_of (nodes.Dict b) (Some (nodes.Dict c)) h = refl
  link_of (nodes.Global a b) (Some (nodes.Global c d)) h = refl
  link_of (nodes.Object a b c d) (Some (nodes.Object e f g i)) h = refl
  link_of _ _ h = absurd h

  link_same : (x y : ℕ) → HasOrigin origin x y → link_at cs x ≡ link_at ns y
  link_same x y h = let c = copied origin ns cs origin x y all h in ap (link_in cs) c.1 ∙ link_of c.0 (slice_get ns y) c.2

  -- what is found in tuples that are alike
  on_tuples : {X : Type 0} (f g : List ℕ → Option X) → ((xs ys : List ℕ) → HaveOrigins origin xs ys → f xs ≡ g ys) → (o p : Option (List ℕ)) → TuplesAlike origin o p → option_and_then f o ≡ option_and_then g p
  on_tuples f g h None None t = refl
  on_tuples f g h (Some xs) (Some ys) t = h xs ys t
  on_tuples f g h None (Some ys) t = absurd t
  on_tuples f g h (Some xs) None t = absurd t

  items_same : (class : Class) (x y : ℕ) → HasOrigin origin x y → state_items class cs x ≡ state_items class ns y
  items_same class x y h =
      on_tuples (member_items class cs) (member_items class ns) (λ xs ys t. members_same cs ns (HasOrigin origin) key_same value_same class xs ys (origins_pair origin xs ys t)) (members_at cs x) (members_at ns y) (tuple_same x y h)

  bucket_same : (class : Class) (xs ys : List ℕ) → HaveOrigins origin xs ys → bucket_in class cs xs ≡ bucket_in class ns ys
  bucket_same class [] [] h = refl
  bucket_same class (x ∷ []) (y ∷ []) h = ap (with_next None) (items_same class x y h.0)
  bucket_same class (x ∷ v ∷ []) (y ∷ w ∷ []) h = let items = items_same class x y h.0 in let link = link_same v w h.1.0 in λ i. linked (link i) (items i)
  bucket_same class (x ∷ v ∷ a ∷ xs) (y ∷ w ∷ b ∷ ys) h = refl
  bucket_same class [] (y ∷ ys) h = absurd h
  bucket_same class (x ∷ xs) [] h = absurd h
  bucket_same class (x ∷ []) (y ∷ w ∷ ys) h = absurd h.1
  bucket_same class (x ∷ v ∷ xs) (y ∷ []) h = absurd h.1
  bucket_same class (x ∷ v ∷ []) (y ∷ w ∷ b ∷ ys) h = absurd h.1.1
  bucket_same class (x ∷ v ∷ a ∷ xs) (y ∷ w ∷ []) h = absurd h.1.1

  pub at_same : (class : Class) (x y : ℕ) → HasOrigin origin x y → bucket_at class cs x ≡ bucket_at class ns y
  at_same class x y h = on_tuples (bucket_in class cs) (bucket_in class ns) (bucket_same class) (members_at cs x) (members_at ns y) (tuple_same x y h)

  embedded_same : (class : Class) (xs ys : List ℕ) → HaveOrigins origin xs ys → embedded_in class cs xs ≡ embedded_in class ns ys
  embedded_same class [] [] h = refl
  embedded_same class (x ∷ []) (y ∷ []) h = ap (option_and_then lone_leaf) (at_same class x y h.0)
  embedded_same class (x ∷ v ∷ xs) (y ∷ w ∷ ys) h = refl
  embedded_same class [] (y ∷ ys) h = absurd h
  embedded_same class (x ∷ xs) [] h = absurd h
  embedded_same class (x ∷ []) (y ∷ w ∷ ys) h = absurd h.1
  embedded_same class (x ∷ v ∷ xs) (y ∷ []) h = absurd h.1

  children_same : (kind : KeyKind) (xs ys : List ℕ) → HaveOrigins origin xs ys → children_in kind cs xs ≡ children_in kind ns ys
  children_same kind [] [] h = refl
  children_same kind (x ∷ xs) (y ∷ ys) h =
      let head = link_same x y h.0 in
      let tail = tails_same cs ns (HasOrigin origin) key_same link_same kind xs ys (origins_pair origin xs ys h.1) in
      λ i. found_both (λ oid branches. (oid, branches)) (head i) (tail i)
  children_same kind [] (y ∷ ys) h = absurd h
  children_same kind (x ∷ xs) [] h = absurd h

  inner_same : (kind : KeyKind) (x y v w : ℕ) → HasOrigin origin x y → HasOrigin origin v w → inner_in kind cs x v ≡ inner_in kind ns y w
  inner_same kind x y v w h g =
      let children = on_tuples (children_in kind cs) (children_in kind ns) (children_same kind) (members_at cs x) (members_at ns y) (tuple_same x y h) in
      let first = link_same v w g in
      λ i. found_both (λ (found : ℕ × List Branch) oid. Children (record { head = found.0; tail = found.1; first = oid })) (children i) (first i)

  parts_same : (class : Class) (xs ys : List ℕ) → HaveOrigins origin xs ys → tree_members class cs xs ≡ tree_members class ns ys
  parts_same class [] [] h = refl
  parts_same class (x ∷ []) (y ∷ []) h = on_tuples (embedded_in class cs) (embedded_in class ns) (embedded_same class) (members_at cs x) (members_at ns y) (tuple_same x y h.0)
  parts_same class (x ∷ v ∷ []) (y ∷ w ∷ []) h = inner_same class.key x y v w h.0 h.1.0
  parts_same class (x ∷ v ∷ a ∷ xs) (y ∷ w ∷ b ∷ ys) h = refl
  parts_same class [] (y ∷ ys) h = absurd h
  parts_same class (x ∷ xs) [] h = absurd h
  parts_same class (x ∷ []) (y ∷ w ∷ ys) h = absurd h.1
  parts_same class (x ∷ v ∷ xs) (y ∷ []) h = absurd h.1
  parts_same class (x ∷ v ∷ []) (y ∷ w ∷ b ∷ ys) h = absurd h.1.1
  parts_same class (x ∷ v ∷ a ∷ xs) (y ∷ w ∷ []) h = absurd h.1.1

  tree_same : (class : Class) (x : Node) (o : Option Node) → IsCopy origin x o → tree_in class cs (Some x) ≡ tree_in class ns o
  tree_same class (nodes.Tuple xs) (Some (nodes.Tuple ys)) h = parts_same class xs ys h
  tree_same class nodes.None (Some nodes.None) h = refl
  tree_same class (nodes.List xs) (Some (nodes.List ys)) h = refl
  tree_same class (nodes.Bool b) (Some (nodes.Bool c)) h = refl
  tree_same class (nodes.Number b) (Some (nodes.Number c)) h = refl
  tree_same class (nodes.Wide b) (Some (nodes.Wide c)) h = refl
  tree_same class (nodes.Float b) (Some (nodes.Float c)) h = refl
  tree_same class (nodes.Bytes b) (Some (nodes.Bytes c)) h = refl
  tree_same class (nodes.OldText b) (Some (nodes.OldText c)) h = refl
  tree_same class (nodes.Text b) (Some (nodes.Text c)) h = refl
  tree_same class (nodes.Dict b) (Some (nodes.Dict c)) h = refl
  tree_same class (nodes.Global a b) (Some (nodes.Global c d)) h = refl
  tree_same class (nodes.Reference b) (Some (nodes.Reference c)) h = refl
  tree_same class (nodes.Object a b c d) (Some (nodes.Object e f g i)) h = refl
  tree_same class _ _ h = absurd h

  pub state_same : (class : Class) (x y : ℕ) → HasOrigin origin x y → tree_in class cs (slice_get cs x) ≡ tree_in class ns (slice_get ns y)
  state_same class x y h = let c = copied origin ns cs origin x y all h in ap (tree_in class cs) c.1 ∙ tree_same class c.0 (slice_get ns y) c.2

pub same_held : SameHoldsTheSame
same_held class g copy s =
    (at_same s.origin g.nodes copy.nodes s.each s.once class copy.root g.root s.root, state_same s.origin g.nodes copy.nodes s.each s.once class copy.root g.root s.root)
