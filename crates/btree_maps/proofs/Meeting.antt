-- What a walk over the leaves comes to.
use Rattle.std.proofs.Common.{◌≡◌, ℕ, suc, ◌-◌, ◌<◌, ◌^◌, Bool, false, List, [], ◌∷◌, ◌++◌, length, Option, refl, sym, ◌∙◌, ap, subst, arith, append_assoc, append-nil}
use Rattle.std.specs.Prelude.{if◌then◌else◌}
use Rattle.pickle_graph.specs.Graph.{Graph}
use Rattle.btree_family.specs.declared.bucket.Item.{Item}
use Rattle.btree_family.specs.declared.key.Key.{Key}
use Rattle.btree_shapes.specs.declared.node.Node.{Node}
use Rattle.btree_shapes.specs.declared.node.Node.TheVariants as node
use Rattle.btree_shapes.specs.declared.space.Call.{Call}
use Rattle.btree_shapes.specs.declared.space.Call.TheVariants.{Read}
use Rattle.btree_shapes.specs.Met.{ReadsFirst, ReadsUpTo}
use Rattle.btree_shapes.specs.MetLaws.{first_logged, first_one, up_to_first, up_to_next}
use Rattle.btree_shapes.specs.Nodes.{Held, Holds, objects_of}
use Rattle.btree_shapes.specs.Spaces.{IsLogged}
use Rattle.btree_shapes.specs.Ways.{reads, stands_in}
use Rattle.btree_maps.specs.declared.span.Span.{Span}
use Rattle.btree_maps.specs.declared.span.Span.TheVariants.{Within}
use Rattle.btree_maps.specs.declared.walk.Walk.{Walk}
use Rattle.btree_maps.specs.Visits.{SameLength, children_in, entered, met_at, met_by, met_entering, met_in_turn, met_left}
use Rattle.btree_maps.proofs.Walks.{Pops, fresh, pops_one, popped_two, room_suc, start_is}

met_suc : (span : Span) (room : ℕ) (objects : ℕ → Held) (way : List ℕ) (o : ℕ) → met_at span (suc room) objects way o ≡ (if stands_in way o then [] else o ∷ met_in_turn (met_at span room objects (o ∷ way)) (children_in span (objects o)))
unfolding met_at
met_suc span room objects way o = refl

-- what is met below an object
abbrev beyond : Span → (ℕ → Held) → List ℕ → ℕ → List ℕ
beyond span objects way o = met_in_turn (met_at span (2 ^ 64 - length (o ∷ way)) objects (o ∷ way)) (children_in span (objects o))

met_here : (span : Span) (objects : ℕ → Held) (way : List ℕ) (o : ℕ) → length way < 2 ^ 64 → stands_in way o ≡ false → met_at span (2 ^ 64 - length way) objects way o ≡ o ∷ beyond span objects way o
met_here span objects way o l s =
    ap (λ d. met_at span d objects way o) (room_suc (length way) l)
    ∙ met_suc span (2 ^ 64 - suc (length way)) objects way o
    ∙ ap (λ b. if b then [] else o ∷ beyond span objects way o) s

entering_is : (span : Span) (objects : ℕ → Held) (way : List ℕ) (lefts : List (List ℕ)) (o : ℕ) → length way < 2 ^ 64 → stands_in way o ≡ false → met_entering span objects way lefts o ≡ o ∷ (beyond span objects way o ++ met_left span objects way lefts)
entering_is span objects way lefts o l s = ap (λ xs. xs ++ met_left span objects way lefts) (met_here span objects way o l s)

pub enter_logged : (span : Span) (objects : ℕ → Held) (way : List ℕ) (lefts : List (List ℕ)) (o : ℕ) (log log' : List Call) (no_memory : Bool) → length way < 2 ^ 64 → stands_in way o ≡ false → IsLogged o no_memory log log' → ReadsFirst (met_entering span objects way lefts o) log log'
enter_logged span objects way lefts o log log' no_memory l s logged =
    subst (λ xs. ReadsFirst xs log log') (sym (entering_is span objects way lefts o l s)) (first_logged o (beyond span objects way o ++ met_left span objects way lefts) log log' no_memory logged)

pub enter_read : (span : Span) (objects : ℕ → Held) (way : List ℕ) (lefts : List (List ℕ)) (o : ℕ) (log log' : List Call) → length way < 2 ^ 64 → stands_in way o ≡ false → log' ≡ log ++ Read o ∷ [] → ReadsFirst (met_entering span objects way lefts o) log log'
enter_read span objects way lefts o log log' l s e =
    subst (λ xs. ReadsFirst xs log log') (sym (entering_is span objects way lefts o l s)) (first_one o (beyond span objects way o ++ met_left span objects way lefts) log log' e)

node_met : (span : Span) (objects : ℕ → Held) (walk : Walk) (o : ℕ) (class : Graph) (node : Node) → objects o ≡ Holds class node → beyond span objects walk.way o ++ met_left span objects walk.way walk.lefts ≡ met_left span objects (entered span o walk node).way (entered span o walk node).lefts
node_met span objects walk o class (node.Lone bucket) h =
    ap (λ held. met_in_turn (met_at span (2 ^ 64 - length (o ∷ walk.way)) objects (o ∷ walk.way)) (children_in span held) ++ met_left span objects walk.way walk.lefts) h
node_met span objects walk o class (node.Leaf bucket) h =
    ap (λ held. met_in_turn (met_at span (2 ^ 64 - length (o ∷ walk.way)) objects (o ∷ walk.way)) (children_in span held) ++ met_left span objects walk.way walk.lefts) h
node_met span objects walk o class (node.Inner inner) h =
    ap (λ held. met_in_turn (met_at span (2 ^ 64 - length (o ∷ walk.way)) objects (o ∷ walk.way)) (children_in span held) ++ met_left span objects walk.way walk.lefts) h

-- an object was entered: what is left then is what was to be met but for it
pub enter_met : (span : Span) (objects : ℕ → Held) (walk next : Walk) (o : ℕ) (class : Graph) (node : Node) → length walk.way < 2 ^ 64 → stands_in walk.way o ≡ false → objects o ≡ Holds class node → next ≡ entered span o walk node → met_entering span objects walk.way walk.lefts o ≡ o ∷ met_left span objects next.way next.lefts
enter_met span objects walk next o class node l s h e =
    entering_is span objects walk.way walk.lefts o l s
    ∙ ap (λ xs. o ∷ xs) (node_met span objects walk o class node h ∙ ap (λ (w : Walk). met_left span objects w.way w.lefts) (sym e))

-- ---- the loop

root_is : (span : Span) (objects : ℕ → Held) (root : ℕ) → met_by span objects root ≡ root ∷ beyond span objects [] root
root_is span objects root = met_here span objects [] root (omega arith) refl

pub start_logged : (span : Span) (objects : ℕ → Held) (root : ℕ) (base log : List Call) (no_memory : Bool) → IsLogged root no_memory base log → ReadsFirst (met_by span objects root) base log
start_logged span objects root base log no_memory logged =
    subst (λ xs. ReadsFirst xs base log) (sym (root_is span objects root)) (first_logged root (beyond span objects [] root) base log no_memory logged)

pub start_read : (span : Span) (objects : ℕ → Held) (root : ℕ) (base log : List Call) → log ≡ base ++ Read root ∷ [] → ReadsFirst (met_by span objects root) base log
start_read span objects root base log e =
    subst (λ xs. ReadsFirst xs base log) (sym (root_is span objects root)) (first_one root (beyond span objects [] root) base log e)

pub start_met : (span : Span) (objects : ℕ → Held) (way : List ℕ) (lefts : List (List ℕ)) (items : List Item) (next : Walk) (root : ℕ) (class : Graph) (node : Node) (base log : List Call) → objects root ≡ Holds class node → way ≡ [] → lefts ≡ [] → items ≡ [] → next ≡ entered span root (record { way = way; lefts = lefts; items = items }) node → log ≡ base ++ Read root ∷ [] → ReadsUpTo (met_by span objects root) (met_left span objects next.way next.lefts) base log
start_met span objects way lefts items next root class node base log h w f i e l = record {
  front = root ∷ [];
  split =
      sym (append-nil (met_by span objects root))
      ∙ enter_met span objects fresh next root class node (omega arith) refl h (e ∙ start_is span way lefts items root node w f i);
  grown = l;
}

rest_met : (span : Span) (objects : ℕ → Held) (way : List ℕ) (o : ℕ) (cs : List ℕ) (lefts : List (List ℕ)) → length way ≡ length ((o ∷ cs) ∷ lefts) → met_left span objects way ((o ∷ cs) ∷ lefts) ≡ met_entering span objects way (cs ∷ lefts) o
rest_met span objects [] o cs lefts e = absurd (omega arith)
rest_met span objects (p ∷ ps) o cs lefts e =
    append_assoc (met_at span (2 ^ 64 - length (p ∷ ps)) objects (p ∷ ps) o) (met_in_turn (met_at span (2 ^ 64 - length (p ∷ ps)) objects (p ∷ ps)) cs) (met_left span objects ps lefts)

child_is : (span : Span) (objects : ℕ → Held) (way : List ℕ) (lefts : List (List ℕ)) (left : List ℕ) (rest : List (List ℕ)) (child : ℕ) (more : List ℕ) (pushed : List (List ℕ)) → SameLength way lefts → lefts ≡ left ∷ rest → left ≡ child ∷ more → pushed ≡ more ∷ rest → met_left span objects way lefts ≡ met_entering span objects way pushed child
child_is span objects way lefts left rest child more pushed s e f p =
    let two = popped_two lefts left rest child more e f in
    ap (met_left span objects way) two
    ∙ rest_met span objects way child more rest (s ∙ ap length two)
    ∙ ap (λ l. met_entering span objects way l child) (sym p)

-- a child was read
pub child_met : (span : Span) (objects : ℕ → Held) (way : List ℕ) (lefts : List (List ℕ)) (left : List ℕ) (rest : List (List ℕ)) (child : ℕ) (more : List ℕ) (pushed : List (List ℕ)) (next : List ℕ) (all : List ℕ) (a b c : List Call) → SameLength way lefts → lefts ≡ left ∷ rest → left ≡ child ∷ more → pushed ≡ more ∷ rest → ReadsUpTo all (met_left span objects way lefts) a b → met_entering span objects way pushed child ≡ child ∷ next → c ≡ b ++ Read child ∷ [] → ReadsUpTo all next a c
child_met span objects way lefts left rest child more pushed next all a b c s e f p r g l =
    up_to_next all (met_left span objects way lefts) child next a b c r (child_is span objects way lefts left rest child more pushed s e f p ∙ g) l

-- a child was read or not, and the walk stopped there
pub child_refused : (span : Span) (objects : ℕ → Held) (way : List ℕ) (lefts : List (List ℕ)) (left : List ℕ) (rest : List (List ℕ)) (child : ℕ) (more : List ℕ) (pushed : List (List ℕ)) (all : List ℕ) (a b c : List Call) → SameLength way lefts → lefts ≡ left ∷ rest → left ≡ child ∷ more → pushed ≡ more ∷ rest → ReadsUpTo all (met_left span objects way lefts) a b → ReadsFirst (met_entering span objects way pushed child) b c → ReadsFirst all a c
child_refused span objects way lefts left rest child more pushed all a b c s e f p r g =
    up_to_first all (met_left span objects way lefts) a b c r
    (subst (λ xs. ReadsFirst xs b c) (sym (child_is span objects way lefts left rest child more pushed s e f p)) g)

-- an object has no child left
pub none_met : (span : Span) (objects : ℕ → Held) (way : List ℕ) (lefts : List (List ℕ)) (left : List ℕ) (rest : List (List ℕ)) (r : Option ℕ) (way' : List ℕ) (all : List ℕ) (a b : List Call) → SameLength way lefts → lefts ≡ left ∷ rest → left ≡ [] → Pops r way way' → ReadsUpTo all (met_left span objects way lefts) a b → ReadsUpTo all (met_left span objects way' rest) a b
none_met span objects way lefts left rest r way' all a b s e f p reads =
    let o = pops_one r way way' (length rest) p (s ∙ ap length e) in
    let lefts_are : lefts ≡ [] ∷ rest = e ∙ ap (λ l. l ∷ rest) f in
    subst (λ xs. ReadsUpTo all xs a b) (ap (met_left span objects way) lefts_are ∙ ap (λ w. met_left span objects w ([] ∷ rest)) o.1) reads

-- the objects of a tree whose root was read
pub met_of_root : (span : Span) (contents contents' : ℕ → Option (List ℕ)) (root root' : ℕ) (base log : List Call) → contents' ≡ contents → root' ≡ root → ReadsFirst (met_by span (objects_of contents' root') root') base log → ReadsFirst (met_by span (objects_of contents root) root) base log
met_of_root span contents contents' root root' base log c r reads =
    subst (λ f. ReadsFirst (met_by span (objects_of f root) root) base log) c
    (subst (λ x. ReadsFirst (met_by span (objects_of contents' x) x) base log) r reads)

-- the same for a range whose ends were copied
pub range_of_root : (low high from to : Key) (contents contents' : ℕ → Option (List ℕ)) (root root' : ℕ) (base log : List Call) → low ≡ from → high ≡ to → contents' ≡ contents → root' ≡ root → ReadsFirst (met_by (Within low high) (objects_of contents' root') root') base log → ReadsFirst (met_by (Within from to) (objects_of contents root) root) base log
range_of_root low high from to contents contents' root root' base log l h c r reads =
    subst (λ x. ReadsFirst (met_by (Within x to) (objects_of contents root) root) base log) l
    (subst (λ x. ReadsFirst (met_by (Within low x) (objects_of contents root) root) base log) h
    (met_of_root (Within low high) contents contents' root root' base log c r reads))
