-- What the way for a key comes to.
use Rattle.std.proofs.Common.{◌≡◌, ℕ, suc, ◌-◌, ◌<◌, ◌^◌, Bool, true, false, List, [], ◌∷◌, ◌++◌, map, length, Option, refl, sym, ◌∙◌, ap, subst, arith}
use Rattle.pickle_graph.specs.Graph.{Graph}
use Rattle.btree_family.specs.declared.key.Key.{Key}
use Rattle.bucket_state.specs.declared.tree.Inner.{Inner}
use Rattle.btree_shapes.specs.declared.node.Node.TheVariants as node
use Rattle.btree_shapes.specs.declared.path.Step.{Step}
use Rattle.btree_shapes.specs.declared.space.Call.{Call}
use Rattle.btree_shapes.specs.declared.space.Call.TheVariants.{Read}
use Rattle.btree_shapes.specs.Met.{ReadsFirst, ReadsUpTo, met_below, met_from}
use Rattle.btree_shapes.specs.MetLaws.{first_logged, first_one, first_then, met_here, met_root, up_to_first, up_to_next}
use Rattle.btree_shapes.specs.Nodes.{Held, Holds, child_for}
use Rattle.btree_shapes.specs.Spaces.{IsLogged}
use Rattle.btree_shapes.specs.Ways.{stands_in, step_oid}
use Rattle.btree_shapes.proofs.Goings.{length_last, oids_last, room_suc}

-- what is met from an object on, below a path
abbrev pub met_at : Key → (ℕ → Held) → List Step → ℕ → List ℕ
met_at key objects path oid = met_from key objects (2 ^ 64 - length path) (map step_oid path) oid

-- what is met below an object
abbrev pub met_beyond : Key → (ℕ → Held) → List Step → ℕ → List ℕ
met_beyond key objects path oid = met_below (met_from key objects (2 ^ 64 - suc (length path)) (map step_oid path ++ oid ∷ [])) key (objects oid)

met_next : (key : Key) (objects : ℕ → Held) (path : List Step) (oid : ℕ) → length path < 2 ^ 64 → stands_in (map step_oid path) oid ≡ false → met_at key objects path oid ≡ oid ∷ met_beyond key objects path oid
met_next key objects path oid l s =
    ap (λ room. met_from key objects room (map step_oid path) oid) (room_suc (length path) l)
    ∙ met_here key objects (2 ^ 64 - suc (length path)) (map step_oid path) oid s

pub logged_here : (key : Key) (objects : ℕ → Held) (path : List Step) (oid : ℕ) (all : List ℕ) (a b c : List Call) (no_memory : Bool) → ReadsUpTo all (met_at key objects path oid) a b → length path < 2 ^ 64 → stands_in (map step_oid path) oid ≡ false → IsLogged oid no_memory b c → ReadsFirst all a c
logged_here key objects path oid all a b c no_memory r l s logged =
    up_to_first all (met_at key objects path oid) a b c r
    (subst (λ xs. ReadsFirst xs b c) (sym (met_next key objects path oid l s)) (first_logged oid (met_beyond key objects path oid) b c no_memory logged))

pub read_here : (key : Key) (objects : ℕ → Held) (path : List Step) (oid : ℕ) (all : List ℕ) (a b c : List Call) → ReadsUpTo all (met_at key objects path oid) a b → length path < 2 ^ 64 → stands_in (map step_oid path) oid ≡ false → c ≡ b ++ Read oid ∷ [] → ReadsFirst all a c
read_here key objects path oid all a b c r l s e =
    up_to_first all (met_at key objects path oid) a b c r
    (subst (λ xs. ReadsFirst xs b c) (sym (met_next key objects path oid l s)) (first_one oid (met_beyond key objects path oid) b c e))

beyond_is : (key : Key) (objects : ℕ → Held) (path path' : List Step) (oid next : ℕ) (class : Graph) (inner : Inner) → objects oid ≡ Holds class (node.Inner inner) → next ≡ child_for inner.head inner.tail key → path' ≡ path ++ (record { oid = oid; class = class; inner = inner }) ∷ [] → met_beyond key objects path oid ≡ met_at key objects path' next
beyond_is key objects path path' oid next class inner h n p =
    let step : Step = record { oid = oid; class = class; inner = inner } in
    let child : ℕ = child_for inner.head inner.tail key in
    rw (p, n) (
    ap (met_below (met_from key objects (2 ^ 64 - suc (length path)) (map step_oid path ++ oid ∷ [])) key) h
    ∙ ap (λ above. met_from key objects (2 ^ 64 - suc (length path)) above child) (sym (oids_last path step))
    ∙ ap (λ m. met_from key objects (2 ^ 64 - m) (map step_oid (path ++ step ∷ [])) child) (sym (length_last path step))
    )

pub met_onward : (key : Key) (objects : ℕ → Held) (path path' : List Step) (oid next : ℕ) (all : List ℕ) (a b c : List Call) (class : Graph) (inner : Inner) → ReadsUpTo all (met_at key objects path oid) a b → length path < 2 ^ 64 → stands_in (map step_oid path) oid ≡ false → objects oid ≡ Holds class (node.Inner inner) → next ≡ child_for inner.head inner.tail key → path' ≡ path ++ (record { oid = oid; class = class; inner = inner }) ∷ [] → c ≡ b ++ Read oid ∷ [] → ReadsUpTo all (met_at key objects path' next) a c
met_onward key objects path path' oid next all a b c class inner r l s h n p e =
    up_to_next all (met_at key objects path oid) oid (met_at key objects path' next) a b c r
    (met_next key objects path oid l s ∙ ap (λ xs. oid ∷ xs) (beyond_is key objects path path' oid next class inner h n p)) e

-- ---- the root

root_is : (key : Key) (objects : ℕ → Held) (root next : ℕ) (class : Graph) (inner : Inner) (path : List Step) → objects root ≡ Holds class (node.Inner inner) → next ≡ child_for inner.head inner.tail key → path ≡ (record { oid = root; class = class; inner = inner }) ∷ [] → met_from key objects (2 ^ 64) [] root ≡ root ∷ met_at key objects path next
root_is key objects root next class inner path h n p =
    rw (p, n) (met_root key objects root ∙ ap (λ held. root ∷ met_below (met_from key objects (2 ^ 64 - 1) (root ∷ [])) key held) h)

pub root_onward : (key : Key) (objects : ℕ → Held) (root next : ℕ) (base log log' : List Call) (class : Graph) (inner : Inner) (path : List Step) → log ≡ base ++ Read root ∷ [] → objects root ≡ Holds class (node.Inner inner) → next ≡ child_for inner.head inner.tail key → path ≡ (record { oid = root; class = class; inner = inner }) ∷ [] → ReadsFirst (met_at key objects path next) log log' → ReadsFirst (met_from key objects (2 ^ 64) [] root) base log'
root_onward key objects root next base log log' class inner path e h n p r =
    subst (λ xs. ReadsFirst xs base log') (sym (root_is key objects root next class inner path h n p))
    (first_then (root ∷ []) (met_at key objects path next) base log log' e r)
