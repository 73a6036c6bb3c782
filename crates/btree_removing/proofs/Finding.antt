-- What a remove is to put, from what was read.
use Rattle.std.proofs.Common.{◌≡◌, ℕ, ◌-◌, ◌^◌, length, Bool, true, false, List, [], ◌∷◌, ◌++◌, Option, Some, None, Result, Ok, Err, refl, sym, ◌∙◌, ap, subst, append_assoc, append-nil}
use Rattle.std.specs.Prelude.{if◌then◌else◌}
use Rattle.pickle_graph.specs.Graph.{Graph}
use Rattle.btree_family.specs.declared.key.Key.{Key}
use Rattle.btree_shapes.specs.declared.error.TreeError.{TreeError}
use Rattle.btree_shapes.specs.declared.error.TreeError.TheVariants.{NotATree, NodeMissing, BadKey, Refused, Memory}
use Rattle.btree_shapes.specs.declared.path.Step.{Step}
use Rattle.btree_shapes.specs.declared.space.Call.{Call}
use Rattle.btree_shapes.specs.declared.space.Call.TheVariants.{Read}
use Rattle.btree_shapes.specs.declared.way.Found.{Found}
use Rattle.btree_shapes.specs.Nodes.{Held}
use Rattle.btree_shapes.specs.Met.{ReadsFirst}
use Rattle.btree_shapes.specs.MetLaws.{first_logged, first_more, first_then}
use Rattle.btree_shapes.specs.Spaces.{IsLogged}
use Rattle.btree_shapes.specs.Ways.{Answers, stands_in, IsRefusal, reads}
use Rattle.btree_putting.specs.declared.puts.Put.{Put}
use Rattle.btree_putting.specs.Puts.{sort_puts}
use Rattle.btree_putting.specs.Firsts.{first_held}
use Rattle.btree_removing.specs.declared.last.Last.{Last}
use Rattle.btree_removing.specs.declared.rung.Rung.{Rung}
use Rattle.btree_removing.specs.declared.sides.Start.{Start}
use Rattle.btree_removing.specs.declared.sides.Sides.{Sides}
use Rattle.btree_removing.specs.Bottoms.{bottom_of, is_emptied, is_leaf, next_of}
use Rattle.btree_removing.specs.Lasts.{last_below, oids_to, last_oids, met_last, met_lasts, relinked, relink, link_before}
use Rattle.btree_removing.specs.Losses.{raise, leaves_tree}
use Rattle.btree_removing.specs.Sides.{sides_of}
use Rattle.btree_removing.specs.Plans.{left_asked, known_first, first_head, head_oids, all_puts, puts_with, puts_leaving, oids_leaving, rungs_above, puts_for, oids_for, some_puts, plan_for, plan_found, oids_with, oids_found, met_beside, met_leaving, met_puts, met_with}
use Rattle.btree_removing.proofs.Lasting.{met_found}

reads_append : (xs ys : List ℕ) → reads (xs ++ ys) ≡ reads xs ++ reads ys
reads_append [] ys = refl
reads_append (x ∷ xs) ys = ap (λ zs. Read x ∷ zs) (reads_append xs ys)

pub log_none : (log : List Call) → log ≡ log ++ reads []
log_none log = sym (append-nil log)

-- ---- the leaf before

relink_by : (next : Option ℕ) (e : TreeError) (r : Result Last TreeError) → IsRefusal e r → IsRefusal e (relink next r)
relink_by next (NotATree oid) r h = ap (relink next) h
relink_by next (NodeMissing oid) r h = ap (relink next) h
relink_by next BadKey r h = ap (relink next) h
relink_by next (Refused refusal) r h = tt
relink_by next Memory r h = tt

pub relink_refused : (key : Key) (objects : ℕ → Held) (next : Option ℕ) (start : Start) (e : TreeError) → IsRefusal e (last_below key objects start) → IsRefusal e (link_before key objects next (Some start))
relink_refused key objects next start e h = relink_by next e (last_below key objects start) h

pub relink_found : (key : Key) (objects : ℕ → Held) (next : Option ℕ) (start : Start) (last : Last) (puts : List Put) → last_below key objects start ≡ Ok last → puts ≡ relinked last.oid last.class last.node next → link_before key objects next (Some start) ≡ Ok puts
relink_found key objects next start last puts h p = ap (relink next) h ∙ ap Ok (sym p)

pub link_log : (key : Key) (objects : ℕ → Held) (start : Start) (last : Last) (log log' : List Call) → last_below key objects start ≡ Ok last → log' ≡ log ++ reads (oids_to start.above (Ok last)) → log' ≡ log ++ reads (last_oids key objects (Some start))
link_log key objects start last log log' h l = l ∙ ap (λ r. log ++ reads (oids_to start.above r)) (sym h)

pub link_met : (objects : ℕ → Held) (start : Start) (log log' : List Call) → ReadsFirst (met_last objects (2 ^ 64 - length start.above) start.above start.child) log log' → ReadsFirst (met_lasts objects (Some start)) log log'
link_met objects start log log' r = r

-- where the leaf before is linked anew, what was met is what was read
lasts_by : (key : Key) (objects : ℕ → Held) (next : Option ℕ) (start : Start) (before : List Put) (r : Result Last TreeError) → last_below key objects start ≡ r → relink next r ≡ Ok before → met_lasts objects (Some start) ≡ oids_to start.above r
lasts_by key objects next start before (Ok last) e h = met_found key objects (2 ^ 64 - length start.above) start.above start.child last e
lasts_by key objects next start before (Err x) e h = absurd cc

lasts_read : (key : Key) (objects : ℕ → Held) (next : Option ℕ) (start : Option Start) (before : List Put) → link_before key objects next start ≡ Ok before → met_lasts objects start ≡ last_oids key objects start
lasts_read key objects next None before h = refl
lasts_read key objects next (Some start) before h = lasts_by key objects next start before (last_below key objects start) refl h

-- ---- the child that is the first now

pub head_met : (start : Start) (log log' : List Call) (no_memory : Bool) → IsLogged start.child no_memory log log' → ReadsFirst (head_oids (Some start)) log log'
head_met start log log' no_memory l = first_logged start.child [] log log' no_memory l

pub head_twice : (key : Key) (objects : ℕ → Held) (start : Start) → stands_in start.above start.child ≡ true → first_head key objects (Some start) ≡ Err (NotATree start.child)
head_twice key objects start s = ap (λ b. if b then Err (NotATree start.child) else known_first (first_held true key start.child (objects start.child))) s

head_once : (key : Key) (objects : ℕ → Held) (start : Start) → stands_in start.above start.child ≡ false → first_head key objects (Some start) ≡ known_first (first_held true key start.child (objects start.child))
head_once key objects start s = ap (λ b. if b then Err (NotATree start.child) else known_first (first_held true key start.child (objects start.child))) s

known_by : (e : TreeError) (r : Result ℕ TreeError) → IsRefusal e r → IsRefusal e (known_first r)
known_by (NotATree oid) r h = ap known_first h
known_by (NodeMissing oid) r h = ap known_first h
known_by BadKey r h = ap known_first h
known_by (Refused refusal) r h = tt
known_by Memory r h = tt

pub head_refused : (key : Key) (objects : ℕ → Held) (start : Start) (e : TreeError) → stands_in start.above start.child ≡ false → IsRefusal e (first_held true key start.child (objects start.child)) → IsRefusal e (first_head key objects (Some start))
head_refused key objects start e s h = subst (λ r. IsRefusal e r) (sym (head_once key objects start s)) (known_by e (first_held true key start.child (objects start.child)) h)

pub head_found : (key : Key) (objects : ℕ → Held) (start : Start) (first : ℕ) → stands_in start.above start.child ≡ false → first_held true key start.child (objects start.child) ≡ Ok first → first_head key objects (Some start) ≡ Ok (Some first)
head_found key objects start first s h = head_once key objects start s ∙ ap known_first h

pub head_read : (start : Start) (log log' : List Call) → log' ≡ log ++ Read start.child ∷ [] → ReadsFirst (head_oids (Some start)) log log'
head_read start log log' l = first_logged start.child [] log log' false l

-- ---- an emptied leaf

before_by : (key : Key) (rungs : List Rung) (leaf : Put) (e : TreeError) (r : Result (List Put) TreeError) (known : Result (Option ℕ) TreeError) → IsRefusal e r → IsRefusal e (puts_with key rungs leaf r known)
before_by key rungs leaf (NotATree oid) r known h = ap (λ x. puts_with key rungs leaf x known) h
before_by key rungs leaf (NodeMissing oid) r known h = ap (λ x. puts_with key rungs leaf x known) h
before_by key rungs leaf BadKey r known h = ap (λ x. puts_with key rungs leaf x known) h
before_by key rungs leaf (Refused refusal) r known h = tt
before_by key rungs leaf Memory r known h = tt

pub before_refused : (key : Key) (objects : ℕ → Held) (rungs : List Rung) (leaf : Put) (sides : Sides) (next : Option ℕ) (start : Option Start) (e : TreeError) → next ≡ next_of leaf.node → start ≡ left_asked (is_leaf leaf.node) sides.left → IsRefusal e (link_before key objects next start) → IsRefusal e (puts_leaving key objects rungs leaf sides)
before_refused key objects rungs leaf sides next start e n s h =
    before_by key rungs leaf e (link_before key objects (next_of leaf.node) (left_asked (is_leaf leaf.node) sides.left)) (first_head key objects sides.head)
    (subst (λ x. IsRefusal e (link_before key objects (next_of leaf.node) x)) s (subst (λ x. IsRefusal e (link_before key objects x start)) n h))

before_is : (key : Key) (objects : ℕ → Held) (leaf : Put) (sides : Sides) (next : Option ℕ) (start : Option Start) (before : List Put) → next ≡ next_of leaf.node → start ≡ left_asked (is_leaf leaf.node) sides.left → link_before key objects next start ≡ Ok before → link_before key objects (next_of leaf.node) (left_asked (is_leaf leaf.node) sides.left) ≡ Ok before
before_is key objects leaf sides next start before n s h = ap (λ x. link_before key objects x (left_asked (is_leaf leaf.node) sides.left)) (sym n) ∙ ap (link_before key objects next) (sym s) ∙ h

first_by : (key : Key) (rungs : List Rung) (leaf : Put) (e : TreeError) (before : List Put) (known : Result (Option ℕ) TreeError) → IsRefusal e known → IsRefusal e (puts_with key rungs leaf (Ok before) known)
first_by key rungs leaf (NotATree oid) before known h = ap (puts_with key rungs leaf (Ok before)) h
first_by key rungs leaf (NodeMissing oid) before known h = ap (puts_with key rungs leaf (Ok before)) h
first_by key rungs leaf BadKey before known h = ap (puts_with key rungs leaf (Ok before)) h
first_by key rungs leaf (Refused refusal) before known h = tt
first_by key rungs leaf Memory before known h = tt

pub first_refused : (key : Key) (objects : ℕ → Held) (rungs : List Rung) (leaf : Put) (sides : Sides) (next : Option ℕ) (start : Option Start) (before : List Put) (e : TreeError) → next ≡ next_of leaf.node → start ≡ left_asked (is_leaf leaf.node) sides.left → link_before key objects next start ≡ Ok before → IsRefusal e (first_head key objects sides.head) → IsRefusal e (puts_leaving key objects rungs leaf sides)
first_refused key objects rungs leaf sides next start before e n s b h =
    subst (λ x. IsRefusal e (puts_with key rungs leaf x (first_head key objects sides.head))) (sym (before_is key objects leaf sides next start before n s b))
    (first_by key rungs leaf e before (first_head key objects sides.head) h)

pub leaving : (key : Key) (objects : ℕ → Held) (rungs : List Rung) (leaf : Put) (sides : Sides) (next : Option ℕ) (start : Option Start) (before raised puts : List Put) (known : Option ℕ) → next ≡ next_of leaf.node → start ≡ left_asked (is_leaf leaf.node) sides.left → link_before key objects next start ≡ Ok before → first_head key objects sides.head ≡ Ok known → raised ≡ (raise key known rungs (leaves_tree leaf)).puts → puts ≡ sort_puts (before ++ raised) → puts_leaving key objects rungs leaf sides ≡ Ok puts
leaving key objects rungs leaf sides next start before raised puts known n s b h r p =
    ap (λ x. puts_with key rungs leaf x (first_head key objects sides.head)) (before_is key objects leaf sides next start before n s b)
    ∙ ap (puts_with key rungs leaf (Ok before)) h
    ∙ ap (λ x. Ok (sort_puts (before ++ x))) (sym r)
    ∙ ap Ok (sym p)

pub leaving_log : (key : Key) (objects : ℕ → Held) (leaf : Put) (sides : Sides) (start : Option Start) (log middle log' : List Call) → start ≡ left_asked (is_leaf leaf.node) sides.left → middle ≡ log ++ reads (last_oids key objects start) → log' ≡ middle ++ reads (head_oids sides.head) → log' ≡ log ++ reads (oids_leaving key objects leaf sides)
leaving_log key objects leaf sides start log middle log' s m l =
    l ∙ ap (λ x. x ++ reads (head_oids sides.head)) (m ∙ ap (λ x. log ++ reads (last_oids key objects x)) s)
    ∙ append_assoc log (reads (last_oids key objects (left_asked (is_leaf leaf.node) sides.left))) (reads (head_oids sides.head))
    ∙ ap (λ x. log ++ x) (sym (reads_append (last_oids key objects (left_asked (is_leaf leaf.node) sides.left)) (head_oids sides.head)))

-- the way to the leaf before stopped
pub leaving_before : (objects : ℕ → Held) (leaf : Put) (sides whole : Sides) (start : Option Start) (log log' : List Call) → sides ≡ whole → start ≡ left_asked (is_leaf leaf.node) sides.left → ReadsFirst (met_lasts objects start) log log' → ReadsFirst (met_leaving objects leaf whole) log log'
leaving_before objects leaf sides whole start log log' w s r =
    subst (λ x. ReadsFirst (met_leaving objects leaf x) log log') w (subst (λ x. ReadsFirst (met_lasts objects x ++ head_oids sides.head) log log') s (first_more (met_lasts objects start) (head_oids sides.head) log log' r))

-- the leaf before was read, and the child that is the first now, or not
pub leaving_head : (key : Key) (objects : ℕ → Held) (leaf : Put) (sides whole : Sides) (next : Option ℕ) (start : Option Start) (before : List Put) (log middle log' : List Call) → sides ≡ whole → start ≡ left_asked (is_leaf leaf.node) sides.left → link_before key objects next start ≡ Ok before → middle ≡ log ++ reads (last_oids key objects start) → ReadsFirst (head_oids sides.head) middle log' → ReadsFirst (met_leaving objects leaf whole) log log'
leaving_head key objects leaf sides whole next start before log middle log' w s h m r =
    subst (λ x. ReadsFirst (met_leaving objects leaf x) log log') w (subst (λ x. ReadsFirst (met_lasts objects x ++ head_oids sides.head) log log') s
    (first_then (met_lasts objects start) (head_oids sides.head) log middle log'
    (m ∙ ap (λ xs. log ++ reads xs) (sym (lasts_read key objects next start before h))) r))

-- ---- all puts

pub stays_so : (key : Key) (objects : ℕ → Held) (path : List Step) (leaf : Put) (none puts : List Put) → is_emptied leaf.node ≡ false → none ≡ [] → puts ≡ none ++ leaf ∷ [] → puts_for key objects path leaf ≡ Ok puts
stays_so key objects path leaf none puts e n p =
    ap (λ b. if b then puts_leaving key objects (rungs_above leaf path) leaf (sides_of key (rungs_above leaf path)) else Ok (leaf ∷ [])) e
    ∙ ap (λ xs. Ok (xs ++ leaf ∷ [])) (sym n) ∙ ap Ok (sym p)

pub stays_log : (key : Key) (objects : ℕ → Held) (path : List Step) (leaf : Put) (log : List Call) → is_emptied leaf.node ≡ false → log ≡ log ++ reads (oids_for key objects path leaf)
stays_log key objects path leaf log e =
    sym (append-nil log) ∙ ap (λ b. log ++ reads (if b then oids_leaving key objects leaf (sides_of key (rungs_above leaf path)) else [])) (sym e)

gone_is : (key : Key) (objects : ℕ → Held) (path : List Step) (leaf : Put) (rungs : List Rung) → is_emptied leaf.node ≡ true → rungs ≡ rungs_above leaf path → puts_for key objects path leaf ≡ puts_leaving key objects rungs leaf (sides_of key rungs)
gone_is key objects path leaf rungs e r =
    ap (λ b. if b then puts_leaving key objects (rungs_above leaf path) leaf (sides_of key (rungs_above leaf path)) else Ok (leaf ∷ [])) e
    ∙ ap (λ x. puts_leaving key objects x leaf (sides_of key x)) (sym r)

pub gone_found : (key : Key) (objects : ℕ → Held) (path : List Step) (leaf : Put) (rungs : List Rung) (puts : List Put) → is_emptied leaf.node ≡ true → rungs ≡ rungs_above leaf path → puts_leaving key objects rungs leaf (sides_of key rungs) ≡ Ok puts → puts_for key objects path leaf ≡ Ok puts
gone_found key objects path leaf rungs puts e r h = gone_is key objects path leaf rungs e r ∙ h

pub gone_refused : (key : Key) (objects : ℕ → Held) (path : List Step) (leaf : Put) (rungs : List Rung) (x : TreeError) → is_emptied leaf.node ≡ true → rungs ≡ rungs_above leaf path → IsRefusal x (puts_leaving key objects rungs leaf (sides_of key rungs)) → IsRefusal x (puts_for key objects path leaf)
gone_refused key objects path leaf rungs x e r h = subst (λ y. IsRefusal x y) (sym (gone_is key objects path leaf rungs e r)) h

pub gone_answers : (key : Key) (objects : ℕ → Held) (path : List Step) (leaf : Put) (rungs : List Rung) (result : Result (List Put) TreeError) → is_emptied leaf.node ≡ true → rungs ≡ rungs_above leaf path → Answers result (puts_leaving key objects rungs leaf (sides_of key rungs)) → Answers result (puts_for key objects path leaf)
gone_answers key objects path leaf rungs result e r h = subst (Answers result) (sym (gone_is key objects path leaf rungs e r)) h

pub gone_log : (key : Key) (objects : ℕ → Held) (path : List Step) (leaf : Put) (rungs : List Rung) (log log' : List Call) → is_emptied leaf.node ≡ true → rungs ≡ rungs_above leaf path → log' ≡ log ++ reads (oids_leaving key objects leaf (sides_of key rungs)) → log' ≡ log ++ reads (oids_for key objects path leaf)
gone_log key objects path leaf rungs log log' e r l =
    l ∙ ap (λ x. log ++ reads (oids_leaving key objects leaf (sides_of key x))) r
    ∙ ap (λ b. log ++ reads (if b then oids_leaving key objects leaf (sides_of key (rungs_above leaf path)) else [])) (sym e)

pub gone_met : (key : Key) (objects : ℕ → Held) (path : List Step) (leaf : Put) (rungs : List Rung) (log log' : List Call) → is_emptied leaf.node ≡ true → rungs ≡ rungs_above leaf path → ReadsFirst (met_leaving objects leaf (sides_of key rungs)) log log' → ReadsFirst (met_puts key objects path leaf) log log'
gone_met key objects path leaf rungs log log' e r m =
    subst (λ b. ReadsFirst (if b then met_leaving objects leaf (sides_of key (rungs_above leaf path)) else []) log log') (sym e)
    (subst (λ x. ReadsFirst (met_leaving objects leaf (sides_of key x)) log log') r m)

-- ---- the end of the way

pub absent : (key : Key) (objects : ℕ → Held) (found : Found) → bottom_of found.oid found.class found.node key ≡ None → plan_found key objects found ≡ Ok None
absent key objects found e = ap (plan_for key objects found.path) e

pub absent_log : (key : Key) (objects : ℕ → Held) (found : Found) (log : List Call) → bottom_of found.oid found.class found.node key ≡ None → log ≡ log ++ reads (oids_found key objects found)
absent_log key objects found log e = sym (append-nil log) ∙ ap (λ x. log ++ reads (oids_with key objects found.path x)) (sym e)

some_by : (e : TreeError) (r : Result (List Put) TreeError) → IsRefusal e r → IsRefusal e (some_puts r)
some_by (NotATree oid) r h = ap some_puts h
some_by (NodeMissing oid) r h = ap some_puts h
some_by BadKey r h = ap some_puts h
some_by (Refused refusal) r h = tt
some_by Memory r h = tt

pub puts_refused : (key : Key) (objects : ℕ → Held) (found : Found) (leaf : Put) (e : TreeError) → bottom_of found.oid found.class found.node key ≡ Some leaf → IsRefusal e (puts_for key objects found.path leaf) → IsRefusal e (plan_found key objects found)
puts_refused key objects found leaf e b h = subst (λ x. IsRefusal e (plan_for key objects found.path x)) (sym b) (some_by e (puts_for key objects found.path leaf) h)

pub puts_found : (key : Key) (objects : ℕ → Held) (found : Found) (leaf : Put) (puts : List Put) → bottom_of found.oid found.class found.node key ≡ Some leaf → puts_for key objects found.path leaf ≡ Ok puts → plan_found key objects found ≡ Ok (Some puts)
puts_found key objects found leaf puts b h = ap (plan_for key objects found.path) b ∙ ap some_puts h

pub puts_log : (key : Key) (objects : ℕ → Held) (found : Found) (leaf : Put) (log log' : List Call) → bottom_of found.oid found.class found.node key ≡ Some leaf → log' ≡ log ++ reads (oids_for key objects found.path leaf) → log' ≡ log ++ reads (oids_found key objects found)
puts_log key objects found leaf log log' b l = l ∙ ap (λ x. log ++ reads (oids_with key objects found.path x)) (sym b)

pub puts_met : (key : Key) (objects : ℕ → Held) (found : Found) (leaf : Put) (log log' : List Call) → bottom_of found.oid found.class found.node key ≡ Some leaf → ReadsFirst (met_puts key objects found.path leaf) log log' → ReadsFirst (met_beside key objects found) log log'
puts_met key objects found leaf log log' b r = subst (λ x. ReadsFirst (met_with key objects found.path x) log log') (sym b) r
