-- Parts of nodes that stand for each other.
use Rattle.std.proofs.Common.{◌≡◌, ℕ, zero, suc, Bool, false, List, [], ◌∷◌, ◌++◌, Option, Some, None, refl, ◌∙◌, ap, subst}
use Rattle.std.specs.Prelude.{slice_get}
use Rattle.pickle_graph.specs.declared.node.Node.{Node}
use Rattle.pickle_graph.specs.declared.node.Node.TheVariants as nodes
use Rattle.pickle_graph.specs.declared.node.Act.{Act}
use Rattle.pickle_graph.specs.declared.node.Act.TheVariants.{Append, Set, Build}
use Rattle.pickle_graph.specs.declared.parts.Part.{Part}
use Rattle.pickle_graph.specs.declared.parts.Part.TheVariants.{Byte, Item}
use Rattle.pickle_graph.specs.Parts.{parts_of, item_parts, pair_parts, act_parts, is_held, items_in, items_of, items_at, object_byte, tuple_parts, list_parts, dict_parts}
use Rattle.pickle_graph.specs.Same.{HasOrigin, HaveOrigins, PairsStandFor, ActsStandFor, IsCopy, AllCopies}
use Rattle.pickle_writing.specs.Spelling.{leaf_text}

-- ---- parts that stand for each other's

-- a byte for the same byte, an item for the one that it stands for
abbrev pub PartsAlike : List ℕ → List Part → List Part → Type 0
PartsAlike origin [] [] = Unit {0}
PartsAlike origin (Byte a ∷ ps) (Byte b ∷ qs) = (a ≡ b) × PartsAlike origin ps qs
PartsAlike origin (Item n ∷ ps) (Item m ∷ qs) = HasOrigin origin n m × PartsAlike origin ps qs
PartsAlike origin _ _ = ⊥

alike_append : (origin : List ℕ) (ps qs ps' qs' : List Part) → PartsAlike origin ps qs → PartsAlike origin ps' qs' → PartsAlike origin (ps ++ ps') (qs ++ qs')
alike_append origin [] [] ps' qs' h g = g
alike_append origin (Byte a ∷ ps) (Byte b ∷ qs) ps' qs' h g = (h.0, alike_append origin ps qs ps' qs' h.1 g)
alike_append origin (Item a ∷ ps) (Item b ∷ qs) ps' qs' h g = (h.0, alike_append origin ps qs ps' qs' h.1 g)
alike_append origin [] (Byte b ∷ qs) ps' qs' h g = absurd h
alike_append origin [] (Item b ∷ qs) ps' qs' h g = absurd h
alike_append origin (Byte a ∷ ps) [] ps' qs' h g = absurd h
alike_append origin (Item a ∷ ps) [] ps' qs' h g = absurd h
alike_append origin (Byte a ∷ ps) (Item b ∷ qs) ps' qs' h g = absurd h
alike_append origin (Item a ∷ ps) (Byte b ∷ qs) ps' qs' h g = absurd h

items_alike : (origin ns ms : List ℕ) → HaveOrigins origin ns ms → PartsAlike origin (item_parts ns) (item_parts ms)
items_alike origin [] [] h = tt
items_alike origin (n ∷ ns) (m ∷ ms) h = (h.0, items_alike origin ns ms h.1)
items_alike origin [] (m ∷ ms) h = absurd h
items_alike origin (n ∷ ns) [] h = absurd h

pairs_alike : (origin : List ℕ) (ns ms : List (ℕ × ℕ)) → PairsStandFor origin ns ms → PartsAlike origin (pair_parts ns) (pair_parts ms)
pairs_alike origin [] [] h = tt
pairs_alike origin (n ∷ ns) (m ∷ ms) h = (h.0, (h.1, pairs_alike origin ns ms h.2))
pairs_alike origin [] (m ∷ ms) h = absurd h
pairs_alike origin (n ∷ ns) [] h = absurd h

acts_alike : (origin : List ℕ) (ns ms : List Act) → ActsStandFor origin ns ms → PartsAlike origin (act_parts ns) (act_parts ms)
acts_alike origin [] [] h = tt
acts_alike origin [] (m ∷ ms) h = absurd h
acts_alike origin (n ∷ ns) [] h = absurd h
acts_alike origin (Append a ∷ ns) (Append b ∷ ms) h = (h.0, (refl, acts_alike origin ns ms h.1))
acts_alike origin (Set a b ∷ ns) (Set c d ∷ ms) h = (h.0.0, (h.0.1, (refl, acts_alike origin ns ms h.1)))
acts_alike origin (Build a ∷ ns) (Build b ∷ ms) h = (h.0, (refl, acts_alike origin ns ms h.1))
acts_alike origin (Append a ∷ ns) (Set c d ∷ ms) h = absurd h.0
acts_alike origin (Append a ∷ ns) (Build b ∷ ms) h = absurd h.0
acts_alike origin (Set a b ∷ ns) (Append c ∷ ms) h = absurd h.0
acts_alike origin (Set a b ∷ ns) (Build c ∷ ms) h = absurd h.0
acts_alike origin (Build a ∷ ns) (Append c ∷ ms) h = absurd h.0
acts_alike origin (Build a ∷ ns) (Set c d ∷ ms) h = absurd h.0

-- MARK, the items, and their opcode
many_alike : (origin : List ℕ) (ps qs : List Part) (byte : ℕ) → PartsAlike origin ps qs → PartsAlike origin (Byte 0x28 ∷ (ps ++ Byte byte ∷ [])) (Byte 0x28 ∷ (qs ++ Byte byte ∷ []))
many_alike origin ps qs byte h = (refl, alike_append origin ps qs (Byte byte ∷ []) (Byte byte ∷ []) h (refl, tt))

tuples_alike : (origin ns ms : List ℕ) → HaveOrigins origin ns ms → PartsAlike origin (tuple_parts ns) (tuple_parts ms)
tuples_alike origin [] [] h = tt
tuples_alike origin (a ∷ []) (b ∷ []) h = (h.0, (refl, tt))
tuples_alike origin (a ∷ c ∷ []) (b ∷ d ∷ []) h = (h.0, (h.1.0, (refl, tt)))
tuples_alike origin (a ∷ c ∷ e ∷ []) (b ∷ d ∷ f ∷ []) h = (h.0, (h.1.0, (h.1.1.0, (refl, tt))))
tuples_alike origin (a ∷ c ∷ e ∷ i ∷ ns) (b ∷ d ∷ f ∷ j ∷ ms) h =
    many_alike origin (item_parts (a ∷ c ∷ e ∷ i ∷ ns)) (item_parts (b ∷ d ∷ f ∷ j ∷ ms)) 0x74 (items_alike origin (a ∷ c ∷ e ∷ i ∷ ns) (b ∷ d ∷ f ∷ j ∷ ms) h)
tuples_alike origin [] (b ∷ ms) h = absurd h
tuples_alike origin (a ∷ ns) [] h = absurd h
tuples_alike origin (a ∷ []) (b ∷ d ∷ ms) h = absurd h.1
tuples_alike origin (a ∷ c ∷ ns) (b ∷ []) h = absurd h.1
tuples_alike origin (a ∷ c ∷ []) (b ∷ d ∷ f ∷ ms) h = absurd h.1.1
tuples_alike origin (a ∷ c ∷ e ∷ ns) (b ∷ d ∷ []) h = absurd h.1.1
tuples_alike origin (a ∷ c ∷ e ∷ []) (b ∷ d ∷ f ∷ j ∷ ms) h = absurd h.1.1.1
tuples_alike origin (a ∷ c ∷ e ∷ i ∷ ns) (b ∷ d ∷ f ∷ []) h = absurd h.1.1.1

lists_alike : (origin ns ms : List ℕ) → HaveOrigins origin ns ms → PartsAlike origin (list_parts ns) (list_parts ms)
lists_alike origin [] [] h = (refl, tt)
lists_alike origin (a ∷ []) (b ∷ []) h = (refl, (h.0, (refl, tt)))
lists_alike origin (a ∷ c ∷ ns) (b ∷ d ∷ ms) h =
    (refl, many_alike origin (item_parts (a ∷ c ∷ ns)) (item_parts (b ∷ d ∷ ms)) 0x65 (items_alike origin (a ∷ c ∷ ns) (b ∷ d ∷ ms) h))
lists_alike origin [] (b ∷ ms) h = absurd h
lists_alike origin (a ∷ ns) [] h = absurd h
lists_alike origin (a ∷ []) (b ∷ d ∷ ms) h = absurd h.1
lists_alike origin (a ∷ c ∷ ns) (b ∷ []) h = absurd h.1

dicts_alike : (origin : List ℕ) (ns ms : List (ℕ × ℕ)) → PairsStandFor origin ns ms → PartsAlike origin (dict_parts ns) (dict_parts ms)
dicts_alike origin [] [] h = (refl, tt)
dicts_alike origin (a ∷ []) (b ∷ []) h = (refl, (h.0, (h.1, (refl, tt))))
dicts_alike origin (a ∷ c ∷ ns) (b ∷ d ∷ ms) h =
    (refl, many_alike origin (pair_parts (a ∷ c ∷ ns)) (pair_parts (b ∷ d ∷ ms)) 0x75 (pairs_alike origin (a ∷ c ∷ ns) (b ∷ d ∷ ms) h))
dicts_alike origin [] (b ∷ ms) h = absurd h
dicts_alike origin (a ∷ ns) [] h = absurd h
dicts_alike origin (a ∷ []) (b ∷ d ∷ ms) h = absurd h.2
dicts_alike origin (a ∷ c ∷ ns) (b ∷ []) h = absurd h.2

-- a node and the one that it stands for: alike held, alike in parts, and leaves alike in text
pub record NodesAlike (origin : List ℕ) (node old : Node) : Type 0 where
  pub held : is_held node ≡ is_held old
  pub parts : PartsAlike origin (parts_of node) (parts_of old)
  pub leaf : is_held old ≡ false → leaf_text node ≡ leaf_text old

held_tuples : (origin ns ms : List ℕ) → HaveOrigins origin ns ms → is_held (nodes.Tuple ns) ≡ is_held (nodes.Tuple ms)
held_tuples origin [] [] h = refl
held_tuples origin (n ∷ ns) (m ∷ ms) h = refl
held_tuples origin [] (m ∷ ms) h = absurd h
held_tuples origin (n ∷ ns) [] h = absurd h

pub nodes_alike : (origin : List ℕ) (node old : Node) → IsCopy origin node (Some old) → NodesAlike origin node old
nodes_alike origin nodes.None nodes.None h = record { held = refl; parts = tt; leaf = λ _. refl }
nodes_alike origin (nodes.Bool x) (nodes.Bool y) h = record { held = refl; parts = tt; leaf = λ _. ap (λ (b : Bool). leaf_text (nodes.Bool b)) h }
nodes_alike origin (nodes.Number x) (nodes.Number y) h = record { held = refl; parts = tt; leaf = λ _. ap (λ b. leaf_text (nodes.Number b)) h }
nodes_alike origin (nodes.Wide x) (nodes.Wide y) h = record { held = refl; parts = tt; leaf = λ _. ap (λ b. leaf_text (nodes.Wide b)) h }
nodes_alike origin (nodes.Float x) (nodes.Float y) h = record { held = refl; parts = tt; leaf = λ _. ap (λ b. leaf_text (nodes.Float b)) h }
nodes_alike origin (nodes.Bytes x) (nodes.Bytes y) h = record { held = refl; parts = tt; leaf = λ _. ap (λ b. leaf_text (nodes.Bytes b)) h }
nodes_alike origin (nodes.OldText x) (nodes.OldText y) h = record { held = refl; parts = tt; leaf = λ _. ap (λ b. leaf_text (nodes.OldText b)) h }
nodes_alike origin (nodes.Text x) (nodes.Text y) h = record { held = refl; parts = tt; leaf = λ _. ap (λ b. leaf_text (nodes.Text b)) h }
nodes_alike origin (nodes.Tuple ns) (nodes.Tuple ms) h = record { held = held_tuples origin ns ms h; parts = tuples_alike origin ns ms h; leaf = λ _. refl }
nodes_alike origin (nodes.List ns) (nodes.List ms) h = record { held = refl; parts = lists_alike origin ns ms h; leaf = λ _. refl }
nodes_alike origin (nodes.Dict ns) (nodes.Dict ms) h = record { held = refl; parts = dicts_alike origin ns ms h; leaf = λ _. refl }
nodes_alike origin (nodes.Global a b) (nodes.Global c d) h =
    record { held = refl; parts = tt; leaf = λ _. ap (λ (x : List ℕ). leaf_text (nodes.Global x b)) h.0 ∙ ap (λ (x : List ℕ). leaf_text (nodes.Global c x)) h.1 }
nodes_alike origin (nodes.Reference n) (nodes.Reference m) h = record { held = refl; parts = (h, (refl, tt)); leaf = λ _. refl }
nodes_alike origin (nodes.Object a b by_new acts) (nodes.Object c d old_by_new old_acts) h =
    record { held = refl; parts = (h.called, (h.taken, (ap object_byte h.made, acts_alike origin acts old_acts h.done))); leaf = λ _. refl }
nodes_alike origin _ _ h = absurd h

-- the items of such parts stand for each other
pub alike_items : (origin : List ℕ) (ps qs : List Part) → PartsAlike origin ps qs → HaveOrigins origin (items_in ps) (items_in qs)
alike_items origin [] [] h = tt
alike_items origin (Byte a ∷ ps) (Byte b ∷ qs) h = alike_items origin ps qs h.1
alike_items origin (Item a ∷ ps) (Item b ∷ qs) h = (h.0, alike_items origin ps qs h.1)
alike_items origin [] (Byte b ∷ qs) h = absurd h
alike_items origin [] (Item b ∷ qs) h = absurd h
alike_items origin (Byte a ∷ ps) [] h = absurd h
alike_items origin (Item a ∷ ps) [] h = absurd h
alike_items origin (Byte a ∷ ps) (Item b ∷ qs) h = absurd h
alike_items origin (Item a ∷ ps) (Byte b ∷ qs) h = absurd h

-- a leaf has no items
pub leaf_items : (node : Node) → is_held node ≡ false → items_in (parts_of node) ≡ []
leaf_items nodes.None h = refl
leaf_items (nodes.Tuple []) h = refl
leaf_items (nodes.Tuple (n ∷ ns)) h = cc
leaf_items (nodes.List ns) h = cc
leaf_items (nodes.Dict ns) h = cc
leaf_items (nodes.Reference n) h = cc
leaf_items (nodes.Object a b c d) h = cc
leaf_items _ h = refl

pub none_copied : (origin : List ℕ) (node : Node) → IsCopy origin node None → ⊥
none_copied origin nodes.None h = h
none_copied origin _ h = h

-- the node of a copy, and the one that it stands for
pub record Standing (origin : List ℕ) (ns cs : List Node) (a b : ℕ) : Type 0 where
  pub node : Node
  pub old : Node
  pub here : slice_get cs a ≡ Some node
  pub there : slice_get ns b ≡ Some old
  pub alike : NodesAlike origin node old

old_node : (origin : List ℕ) (ns cs : List Node) (a b : ℕ) (node : Node) (o : Option Node) → slice_get cs a ≡ Some node → slice_get ns b ≡ o → IsCopy origin node o → Standing origin ns cs a b
old_node origin ns cs a b node None here there h = absurd (none_copied origin node h)
old_node origin ns cs a b node (Some old) here there h = record { node = node; old = old; here = here; there = there; alike = nodes_alike origin node old h }

pub copied : (origin : List ℕ) (ns rest : List Node) (ms : List ℕ) (a b : ℕ) → AllCopies origin ns rest ms → slice_get ms a ≡ Some b → (node : Node) × (slice_get rest a ≡ Some node) × IsCopy origin node (slice_get ns b)
copied origin ns [] [] a b all h = cc
copied origin ns [] (m ∷ ms) a b all h = absurd all
copied origin ns (copy ∷ rest) [] a b all h = absurd all
copied origin ns (copy ∷ rest) (m ∷ ms) zero b all h =
    let same : m ≡ b = cc in
    (copy, refl, subst (λ (x : ℕ). IsCopy origin copy (slice_get ns x)) same all.0)
copied origin ns (copy ∷ rest) (m ∷ ms) (suc a) b all h = copied origin ns rest ms a b all.1 h

pub standing : (origin : List ℕ) (ns cs : List Node) (a b : ℕ) → AllCopies origin ns cs origin → HasOrigin origin a b → Standing origin ns cs a b
standing origin ns cs a b all h =
    let c = copied origin ns cs origin a b all h in
    old_node origin ns cs a b c.0 (slice_get ns b) c.1 refl c.2

pub items_stand : (origin : List ℕ) (ns cs : List Node) (a b : ℕ) → AllCopies origin ns cs origin → HasOrigin origin a b → HaveOrigins origin (items_at cs a) (items_at ns b)
items_stand origin ns cs a b all h =
    let s = standing origin ns cs a b all h in
    let here : items_at cs a ≡ items_in (parts_of s.node) = ap items_of s.here in
    let there : items_at ns b ≡ items_in (parts_of s.old) = ap items_of s.there in
    rw (here, there) (alike_items origin (parts_of s.node) (parts_of s.old) s.alike.parts)
