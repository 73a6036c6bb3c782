-- Steps of a walk over the leaves.
use Rattle.std.proofs.Common.{◌≡◌, ℕ, ◌+◌, ◌-◌, ◌<◌, ◌^◌, Bool, true, false, List, [], ◌∷◌, Option, Some, None, Result, Ok, Err, refl, arith, sym, ◌∙◌, ap, length, zero, suc, append_assoc, append-nil}
use Rattle.std.specs.Prelude.{if◌then◌else◌, ◌&&◌, MatchOption}
use Rattle.pickle_graph.specs.Graph.{Graph}
use Rattle.btree_family.specs.declared.bucket.Item.{Item}
use Rattle.btree_shapes.specs.declared.error.TreeError.{TreeError}
use Rattle.btree_shapes.specs.declared.error.TreeError.TheVariants.{NotATree, NodeMissing, BadKey, Refused, Memory}
use Rattle.btree_shapes.specs.declared.node.Node.{Node}
use Rattle.btree_shapes.specs.declared.node.Node.TheVariants as node
use Rattle.btree_maps.specs.declared.span.Span.{Span}
use Rattle.btree_maps.specs.declared.walk.Walk.{Walk}
use Rattle.btree_shapes.specs.Nodes.{Held, Nothing, Foreign, Holds}
use Rattle.btree_shapes.specs.Reading.{IsReadError}
use Rattle.btree_shapes.specs.Ways.{stands_in, IsRefusal}
use Rattle.btree_maps.specs.Visits.{and_then, in_turn, visit_node, visit_held, visit, visited, rest_of, left_of, entering, entered, children_in, cost, cost_of, total, children_within, items_within, ends_suit, SameLength}

pub and_then_assoc : (p q r : Result (List Item) TreeError) → and_then (and_then p q) r ≡ and_then p (and_then q r)
and_then_assoc (Ok xs) (Ok ys) (Ok zs) = ap Ok (append_assoc xs ys zs)
and_then_assoc (Ok xs) (Ok ys) (Err e) = refl
and_then_assoc (Ok xs) (Err e) r = refl
and_then_assoc (Err e) q r = refl

and_then_none : (r : Result (List Item) TreeError) → and_then (Ok []) r ≡ r
and_then_none (Ok xs) = refl
and_then_none (Err e) = refl

pub visit_suc : (fits : Bool) (span : Span) (d : ℕ) (objects : ℕ → Held) (way : List ℕ) (o : ℕ) → visit fits span (suc d) objects way o ≡ (if stands_in way o then Err (NotATree o) else visit_held fits span (visit fits span d objects (o ∷ way)) o (objects o))
unfolding visit
visit_suc fits span d objects way o = refl

cost_suc : (span : Span) (d : ℕ) (objects : ℕ → Held) (o : ℕ) → cost span (suc d) objects o ≡ 2 + total (cost span d objects) (children_in span (objects o))
unfolding cost
cost_suc span d objects o = refl

pub cost_positive : (span : Span) (d : ℕ) (objects : ℕ → Held) (o : ℕ) → 0 < cost span d objects o
unfolding cost
cost_positive span zero objects o = omega arith
cost_positive span (suc d) objects o = omega arith

pub room_suc : (n : ℕ) → n < 2 ^ 64 → 2 ^ 64 - n ≡ suc (2 ^ 64 - suc n)
room_suc n l = omega arith

visit_here : (fits : Bool) (span : Span) (objects : ℕ → Held) (way : List ℕ) (o : ℕ) (b : Bool) → length way < 2 ^ 64 → stands_in way o ≡ b → visit fits span (2 ^ 64 - length way) objects way o ≡ (if b then Err (NotATree o) else visit_held fits span (visit fits span (2 ^ 64 - length (o ∷ way)) objects (o ∷ way)) o (objects o))
visit_here fits span objects way o b l s =
    ap (λ d. visit fits span d objects way o) (room_suc (length way) l)
    ∙ visit_suc fits span (2 ^ 64 - suc (length way)) objects way o
    ∙ ap (λ b. if b then Err (NotATree o) else visit_held fits span (visit fits span (2 ^ 64 - suc (length way)) objects (o ∷ way)) o (objects o)) s

cost_here : (span : Span) (objects : ℕ → Held) (way : List ℕ) (o : ℕ) → length way < 2 ^ 64 → cost span (2 ^ 64 - length way) objects o ≡ 2 + total (cost span (2 ^ 64 - length (o ∷ way)) objects) (children_in span (objects o))
cost_here span objects way o l = ap (λ d. cost span d objects o) (room_suc (length way) l) ∙ cost_suc span (2 ^ 64 - suc (length way)) objects o

-- a refusal of the object is one of the walk
refused_here : (fits : Bool) (span : Span) (objects : ℕ → Held) (walk : Walk) (o : ℕ) (e : TreeError) → visit fits span (2 ^ 64 - length walk.way) objects walk.way o ≡ Err e → entering fits span objects walk o ≡ Err e
refused_here fits span objects walk o e v = ap (λ r. and_then (Ok walk.items) (and_then r (rest_of fits span objects walk.way walk.lefts))) v

pub enter_twice : (fits : Bool) (span : Span) (objects : ℕ → Held) (walk : Walk) (o : ℕ) → length walk.way < 2 ^ 64 → stands_in walk.way o ≡ true → entering fits span objects walk o ≡ Err (NotATree o)
enter_twice fits span objects walk o l s = refused_here fits span objects walk o (NotATree o) (visit_here fits span objects walk.way o true l s)

held_here : (fits : Bool) (span : Span) (objects : ℕ → Held) (way : List ℕ) (o : ℕ) (held : Held) → length way < 2 ^ 64 → stands_in way o ≡ false → objects o ≡ held → visit fits span (2 ^ 64 - length way) objects way o ≡ visit_held fits span (visit fits span (2 ^ 64 - length (o ∷ way)) objects (o ∷ way)) o held
held_here fits span objects way o held l s h = visit_here fits span objects way o false l s ∙ ap (visit_held fits span (visit fits span (2 ^ 64 - length (o ∷ way)) objects (o ∷ way)) o) h

pub enter_unread : (fits : Bool) (span : Span) (objects : ℕ → Held) (walk : Walk) (o : ℕ) (e : TreeError) → length walk.way < 2 ^ 64 → stands_in walk.way o ≡ false → IsReadError (objects o) o e → IsRefusal e (entering fits span objects walk o)
enter_unread fits span objects walk o (NotATree other) l s (is, h) = refused_here fits span objects walk o (NotATree other) (held_here fits span objects walk.way o Foreign l s h ∙ ap (λ x. Err (NotATree x)) (sym is))
enter_unread fits span objects walk o (NodeMissing other) l s (is, h) = refused_here fits span objects walk o (NodeMissing other) (held_here fits span objects walk.way o Nothing l s h ∙ ap (λ x. Err (NodeMissing x)) (sym is))
enter_unread fits span objects walk o BadKey l s h = absurd h
enter_unread fits span objects walk o (Refused refusal) l s h = tt
enter_unread fits span objects walk o Memory l s h = tt

pub enter_bad_key : (fits : Bool) (span : Span) (objects : ℕ → Held) (walk : Walk) (o : ℕ) (class : Graph) (node : Node) → length walk.way < 2 ^ 64 → stands_in walk.way o ≡ false → objects o ≡ Holds class node → (fits && ends_suit span node) ≡ false → entering fits span objects walk o ≡ Err BadKey
enter_bad_key fits span objects walk o class node l s h t =
    refused_here fits span objects walk o BadKey (
    held_here fits span objects walk.way o (Holds class node) l s h
    ∙ ap (λ b. if b then visit_node span (visit fits span (2 ^ 64 - length (o ∷ walk.way)) objects (o ∷ walk.way)) node else Err BadKey) t
    )

-- what a node gives, with the rest behind it
node_gives : (fits : Bool) (span : Span) (objects : ℕ → Held) (walk : Walk) (o : ℕ) (node : Node) → left_of fits span objects (entered span o walk node) ≡ and_then (Ok walk.items) (and_then (visit_node span (visit fits span (2 ^ 64 - length (o ∷ walk.way)) objects (o ∷ walk.way)) node) (rest_of fits span objects walk.way walk.lefts))
node_gives fits span objects walk o (node.Lone bucket) = and_then_assoc (Ok walk.items) (Ok (items_within span bucket.items)) (rest_of fits span objects walk.way walk.lefts)
node_gives fits span objects walk o (node.Leaf bucket) = and_then_assoc (Ok walk.items) (Ok (items_within span bucket.items)) (rest_of fits span objects walk.way walk.lefts)
node_gives fits span objects walk o (node.Inner inner) = refl

pub enter_gives : (fits : Bool) (span : Span) (objects : ℕ → Held) (walk next : Walk) (o : ℕ) (class : Graph) (node : Node) → length walk.way < 2 ^ 64 → stands_in walk.way o ≡ false → objects o ≡ Holds class node → (fits && ends_suit span node) ≡ true → next ≡ entered span o walk node → left_of fits span objects next ≡ entering fits span objects walk o
enter_gives fits span objects walk next o class node l s h t e =
    let v =
    held_here fits span objects walk.way o (Holds class node) l s h
    ∙ ap (λ b. if b then visit_node span (visit fits span (2 ^ 64 - length (o ∷ walk.way)) objects (o ∷ walk.way)) node else Err BadKey) t in
    ap (left_of fits span objects) e ∙ node_gives fits span objects walk o node
    ∙ ap (λ r. and_then (Ok walk.items) (and_then r (rest_of fits span objects walk.way walk.lefts))) (sym v)

node_less : (span : Span) (objects : ℕ → Held) (walk : Walk) (o : ℕ) (class : Graph) (node : Node) → length walk.way < 2 ^ 64 → objects o ≡ Holds class node → cost_of span objects (entered span o walk node).way (entered span o walk node).lefts < cost_of span objects walk.way walk.lefts + cost span (2 ^ 64 - length walk.way) objects o
node_less span objects walk o class (node.Lone bucket) l h = let p = cost_positive span (2 ^ 64 - length walk.way) objects o in omega arith
node_less span objects walk o class (node.Leaf bucket) l h = let p = cost_positive span (2 ^ 64 - length walk.way) objects o in omega arith
node_less span objects walk o class (node.Inner inner) l h =
    let e : cost span (2 ^ 64 - length walk.way) objects o ≡ 2 + total (cost span (2 ^ 64 - suc (length walk.way)) objects) (children_within span inner.head inner.tail) =
    cost_here span objects walk.way o l ∙ ap (λ x. 2 + total (cost span (2 ^ 64 - suc (length walk.way)) objects) (children_in span x)) h in
    omega arith

pub enter_less : (span : Span) (objects : ℕ → Held) (walk next : Walk) (o : ℕ) (class : Graph) (node : Node) → length walk.way < 2 ^ 64 → objects o ≡ Holds class node → next ≡ entered span o walk node → cost_of span objects next.way next.lefts < cost_of span objects walk.way walk.lefts + cost span (2 ^ 64 - length walk.way) objects o
enter_less span objects walk next o class node l h e = rw e (node_less span objects walk o class node l h)

node_same : (span : Span) (walk : Walk) (o : ℕ) (node : Node) → SameLength walk.way walk.lefts → SameLength (entered span o walk node).way (entered span o walk node).lefts
node_same span walk o (node.Lone bucket) s = s
node_same span walk o (node.Leaf bucket) s = s
node_same span walk o (node.Inner inner) s = ap suc s

pub enter_same : (span : Span) (walk next : Walk) (o : ℕ) (node : Node) → SameLength walk.way walk.lefts → next ≡ entered span o walk node → SameLength next.way next.lefts
enter_same span walk next o node s e = rw e (node_same span walk o node s)

-- ---- the loop

abbrev pub fresh : Walk
fresh = record { way = []; lefts = []; items = [] }

start_rest : (r : Result (List Item) TreeError) → and_then (Ok []) (and_then r (Ok [])) ≡ r
start_rest (Ok xs) = ap Ok (append-nil xs)
start_rest (Err e) = refl

pub start_is : (span : Span) (way : List ℕ) (lefts : List (List ℕ)) (items : List Item) (o : ℕ) (node : Node) → way ≡ [] → lefts ≡ [] → items ≡ [] → entered span o (record { way = way; lefts = lefts; items = items }) node ≡ entered span o fresh node
start_is span way lefts items o node w f i =
    ap (λ x. entered span o (record { way = x; lefts = lefts; items = items }) node) w
    ∙ ap (λ x. entered span o (record { way = []; lefts = x; items = items }) node) f
    ∙ ap (λ x. entered span o (record { way = []; lefts = []; items = x }) node) i

pub start_gives : (fits : Bool) (span : Span) (objects : ℕ → Held) (way : List ℕ) (lefts : List (List ℕ)) (items : List Item) (next : Walk) (o : ℕ) (class : Graph) (node : Node) → objects o ≡ Holds class node → (fits && ends_suit span node) ≡ true → way ≡ [] → lefts ≡ [] → items ≡ [] → next ≡ entered span o (record { way = way; lefts = lefts; items = items }) node → left_of fits span objects next ≡ visited fits span objects o
start_gives fits span objects way lefts items next o class node h t w f i e =
    enter_gives fits span objects fresh next o class node (omega arith) refl h t (e ∙ start_is span way lefts items o node w f i) ∙ start_rest (visited fits span objects o)

pub start_same : (span : Span) (way : List ℕ) (lefts : List (List ℕ)) (items : List Item) (next : Walk) (o : ℕ) (node : Node) → way ≡ [] → lefts ≡ [] → next ≡ entered span o (record { way = way; lefts = lefts; items = items }) node → SameLength next.way next.lefts
start_same span way lefts items next o node w f e = enter_same span (record { way = way; lefts = lefts; items = items }) next o node (ap length w ∙ sym (ap length f)) e

pub start_bad_key : (fits : Bool) (span : Span) (objects : ℕ → Held) (o : ℕ) (class : Graph) (node : Node) → objects o ≡ Holds class node → (fits && ends_suit span node) ≡ false → visited fits span objects o ≡ Err BadKey
start_bad_key fits span objects o class node h t =
    held_here fits span objects [] o (Holds class node) (omega arith) refl h
    ∙ ap (λ b. if b then visit_node span (visit fits span (2 ^ 64 - 1) objects (o ∷ [])) node else Err BadKey) t

-- a child is taken
pub rest_child : (fits : Bool) (span : Span) (objects : ℕ → Held) (way : List ℕ) (o : ℕ) (cs : List ℕ) (lefts : List (List ℕ)) → length way ≡ length ((o ∷ cs) ∷ lefts) → rest_of fits span objects way ((o ∷ cs) ∷ lefts) ≡ and_then (visit fits span (2 ^ 64 - length way) objects way o) (rest_of fits span objects way (cs ∷ lefts))
rest_child fits span objects [] o cs lefts e = absurd (omega arith)
rest_child fits span objects (p ∷ ps) o cs lefts e = and_then_assoc (visit fits span (2 ^ 64 - length (p ∷ ps)) objects (p ∷ ps) o) (in_turn (visit fits span (2 ^ 64 - length (p ∷ ps)) objects (p ∷ ps)) cs) (rest_of fits span objects ps lefts)

pub cost_child : (span : Span) (objects : ℕ → Held) (way : List ℕ) (o : ℕ) (cs : List ℕ) (lefts : List (List ℕ)) → length way ≡ length ((o ∷ cs) ∷ lefts) → cost_of span objects way ((o ∷ cs) ∷ lefts) ≡ cost_of span objects way (cs ∷ lefts) + cost span (2 ^ 64 - length way) objects o
cost_child span objects [] o cs lefts e = absurd (omega arith)
cost_child span objects (p ∷ ps) o cs lefts e = omega arith

-- an object has no child left
pub rest_none : (fits : Bool) (span : Span) (objects : ℕ → Held) (o : ℕ) (way : List ℕ) (lefts : List (List ℕ)) → rest_of fits span objects (o ∷ way) ([] ∷ lefts) ≡ rest_of fits span objects way lefts
rest_none fits span objects o way lefts = and_then_none (rest_of fits span objects way lefts)

pub cost_none : (span : Span) (objects : ℕ → Held) (o : ℕ) (way : List ℕ) (lefts : List (List ℕ)) → cost_of span objects (o ∷ way) ([] ∷ lefts) ≡ cost_of span objects way lefts + 1
cost_none span objects o way lefts = omega arith

-- where no list of what is left stands, the walk is at its end
pub finish : (fits : Bool) (span : Span) (objects : ℕ → Held) (way : List ℕ) (lefts : List (List ℕ)) → lefts ≡ [] → rest_of fits span objects way lefts ≡ Ok []
finish fits span objects [] lefts e = refl
finish fits span objects (p ∷ ps) lefts e = rw e refl

pub and_then_end : (fits : Bool) (span : Span) (objects : ℕ → Held) (way : List ℕ) (lefts : List (List ℕ)) (xs : List Item) → lefts ≡ [] → and_then (Ok xs) (rest_of fits span objects way lefts) ≡ Ok xs
and_then_end fits span objects way lefts xs e = ap (and_then (Ok xs)) (finish fits span objects way lefts e) ∙ ap Ok (append-nil xs)

-- ---- what is left is popped

pub popped_two : (lefts : List (List ℕ)) (left : List ℕ) (rest : List (List ℕ)) (child : ℕ) (more : List ℕ) → lefts ≡ left ∷ rest → left ≡ child ∷ more → lefts ≡ (child ∷ more) ∷ rest
popped_two lefts left rest child more e f = e ∙ ap (λ l. l ∷ rest) f

pub loop_child : (fits : Bool) (span : Span) (objects : ℕ → Held) (way : List ℕ) (lefts : List (List ℕ)) (items : List Item) (left : List ℕ) (rest : List (List ℕ)) (child : ℕ) (more : List ℕ) (pushed : List (List ℕ)) (whole : Result (List Item) TreeError) → SameLength way lefts → lefts ≡ left ∷ rest → left ≡ child ∷ more → pushed ≡ more ∷ rest → left_of fits span objects (record { way = way; lefts = lefts; items = items }) ≡ whole → entering fits span objects (record { way = way; lefts = pushed; items = items }) child ≡ whole
loop_child fits span objects way lefts items left rest child more pushed whole s e f p g =
    let two = popped_two lefts left rest child more e f in
    ap (λ l. entering fits span objects (record { way = way; lefts = l; items = items }) child) p
    ∙ ap (and_then (Ok items)) (sym (rest_child fits span objects way child more rest (s ∙ ap length two)))
    ∙ ap (λ l. left_of fits span objects (record { way = way; lefts = l; items = items })) (sym two)
    ∙ g

pub same_child : (way : List ℕ) (lefts : List (List ℕ)) (left : List ℕ) (rest : List (List ℕ)) (more : List ℕ) (pushed : List (List ℕ)) → SameLength way lefts → lefts ≡ left ∷ rest → pushed ≡ more ∷ rest → SameLength way pushed
same_child way lefts left rest more pushed s e p = s ∙ ap length e ∙ sym (ap length p)

abbrev pub Pops : Option ℕ → List ℕ → List ℕ → Type 0
Pops r way way' = MatchOption r ((way ≡ []) × (way' ≡ [])) (λ oid. way ≡ oid ∷ way')

pub pops_one : (r : Option ℕ) (way way' : List ℕ) (n : ℕ) → Pops r way way' → length way ≡ suc n → (oid : ℕ) × (way ≡ oid ∷ way')
pops_one None way way' n p l = let z : length way ≡ 0 = ap length p.0 in absurd (omega arith)
pops_one (Some oid) way way' n p l = (oid, p)

pub loop_none : (fits : Bool) (span : Span) (objects : ℕ → Held) (way : List ℕ) (lefts : List (List ℕ)) (items : List Item) (left : List ℕ) (rest : List (List ℕ)) (r : Option ℕ) (way' : List ℕ) (whole : Result (List Item) TreeError) → SameLength way lefts → lefts ≡ left ∷ rest → left ≡ [] → Pops r way way' → left_of fits span objects (record { way = way; lefts = lefts; items = items }) ≡ whole → left_of fits span objects (record { way = way'; lefts = rest; items = items }) ≡ whole
loop_none fits span objects way lefts items left rest r way' whole s e f p g =
    let o = pops_one r way way' (length rest) p (s ∙ ap length e) in
    let lefts_are : lefts ≡ [] ∷ rest = e ∙ ap (λ l. l ∷ rest) f in
    ap (and_then (Ok items)) (sym (rest_none fits span objects o.0 way' rest))
    ∙ ap (λ w. and_then (Ok items) (rest_of fits span objects w ([] ∷ rest))) (sym o.1)
    ∙ ap (λ l. and_then (Ok items) (rest_of fits span objects way l)) (sym lefts_are)
    ∙ g

pub same_none : (way : List ℕ) (lefts : List (List ℕ)) (left : List ℕ) (rest : List (List ℕ)) (r : Option ℕ) (way' : List ℕ) → SameLength way lefts → lefts ≡ left ∷ rest → Pops r way way' → SameLength way' rest
same_none way lefts left rest r way' s e p =
    let o = pops_one r way way' (length rest) p (s ∙ ap length e) in
    let l : suc (length way') ≡ suc (length rest) = sym (ap length o.1) ∙ s ∙ ap length e in
    omega (arith, l)

pub room_none : (way : List ℕ) (lefts : List (List ℕ)) (left : List ℕ) (rest : List (List ℕ)) (r : Option ℕ) (way' : List ℕ) → length way < 2 ^ 64 → SameLength way lefts → lefts ≡ left ∷ rest → Pops r way way' → length way' < 2 ^ 64
room_none way lefts left rest r way' l s e p =
    let o = pops_one r way way' (length rest) p (s ∙ ap length e) in
    let n : length way ≡ suc (length way') = ap length o.1 in
    omega (arith, l, n)
