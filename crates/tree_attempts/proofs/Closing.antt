-- What is met below what is met.
use Rattle.std.proofs.Common.{◌≡◌, ℕ, zero, suc, ◌+◌, ◌≤◌, ◌-◌, Bool, true, false, List, [], ◌∷◌, ◌++◌, ◌⊎◌, inl, inr, refl, sym, ◌∙◌, ap, arith}
use Rattle.std.proofs.lemmas.Grind.{common_steps}
use Rattle.std.specs.Prelude.{if◌then◌else◌, ◌||◌, nat_eq}
use Rattle.btree_shapes.specs.Nodes.{Held}
use Rattle.btree_shapes.specs.Ways.{stands_in}
use Rattle.btree_maps.specs.declared.span.Span.{Span}
use Rattle.btree_maps.specs.Visits.{children_in, met_at, met_in_turn}

same_number : (x y : ℕ) → nat_eq x y ≡ true → x ≡ y
same_number x y e = grind (arith, common_steps)

pub own_number : (x : ℕ) → nat_eq x x ≡ true
own_number x = grind (arith, common_steps)

or_assoc : (a b c : Bool) → ((a || b) || c) ≡ (a || (b || c))
or_assoc true b c = refl
or_assoc false b c = refl

or_cases : (a b : Bool) → (a || b) ≡ true → (a ≡ true) ⊎ (b ≡ true)
or_cases true b e = inl refl
or_cases false b e = inr e

pub or_here : (a b : Bool) → a ≡ true → (a || b) ≡ true
or_here true b e = refl
or_here false b e = absurd cc

pub or_there : (a b : Bool) → b ≡ true → (a || b) ≡ true
or_there true b e = refl
or_there false b e = e

stands_append : (xs ys : List ℕ) (q : ℕ) → stands_in (xs ++ ys) q ≡ (stands_in xs q || stands_in ys q)
stands_append [] ys q = refl
stands_append (x ∷ xs) ys q = ap (λ b. nat_eq x q || b) (stands_append xs ys q) ∙ sym (or_assoc (nat_eq x q) (stands_in xs q) (stands_in ys q))

-- one of several has it
in_more : (each : ℕ → List ℕ) (x : ℕ) (xs : List ℕ) (q : ℕ) → (stands_in (met_in_turn each xs) q ≡ true → (y : ℕ) × (stands_in xs y ≡ true) × (stands_in (each y) q ≡ true))
    → (stands_in (each x) q ≡ true) ⊎ (stands_in (met_in_turn each xs) q ≡ true) → (y : ℕ) × (stands_in (x ∷ xs) y ≡ true) × (stands_in (each y) q ≡ true)
in_more each x xs q later (inl h) = (x, or_here (nat_eq x x) (stands_in xs x) (own_number x), h)
in_more each x xs q later (inr h) = let r = later h in (r.0, or_there (nat_eq x r.0) (stands_in xs r.0) r.1, r.2)

in_one : (each : ℕ → List ℕ) (xs : List ℕ) (q : ℕ) → stands_in (met_in_turn each xs) q ≡ true → (x : ℕ) × (stands_in xs x ≡ true) × (stands_in (each x) q ≡ true)
in_one each [] q e = absurd cc
in_one each (x ∷ xs) q e = in_more each x xs q (in_one each xs q) (or_cases (stands_in (each x) q) (stands_in (met_in_turn each xs) q) (sym (stands_append (each x) (met_in_turn each xs) q) ∙ e))

of_more : (each : ℕ → List ℕ) (y : ℕ) (ys : List ℕ) (x q : ℕ) → stands_in (each x) q ≡ true → (stands_in ys x ≡ true → stands_in (met_in_turn each ys) q ≡ true)
    → (nat_eq y x ≡ true) ⊎ (stands_in ys x ≡ true) → (stands_in (each y) q || stands_in (met_in_turn each ys) q) ≡ true
of_more each y ys x q e later (inl h) = or_here (stands_in (each y) q) _ (ap (λ n. stands_in (each n) q) (same_number y x h) ∙ e)
of_more each y ys x q e later (inr h) = or_there (stands_in (each y) q) _ (later h)

of_one : (each : ℕ → List ℕ) (xs : List ℕ) (x q : ℕ) → stands_in xs x ≡ true → stands_in (each x) q ≡ true → stands_in (met_in_turn each xs) q ≡ true
of_one each [] x q s e = absurd cc
of_one each (y ∷ ys) x q s e = stands_append (each y) (met_in_turn each ys) q ∙ of_more each y ys x q e (λ h. of_one each ys x q h e) (or_cases (nat_eq y x) (stands_in ys x) s)

met_suc : (span : Span) (objects : ℕ → Held) (room : ℕ) (above : List ℕ) (oid : ℕ) → met_at span (suc room) objects above oid ≡ (if stands_in above oid then [] else oid ∷ met_in_turn (met_at span room objects (oid ∷ above)) (children_in span (objects oid)))
unfolding met_at
met_suc span objects room above oid = refl

met_zero : (span : Span) (objects : ℕ → Held) (above : List ℕ) (oid : ℕ) → met_at span zero objects above oid ≡ []
unfolding met_at
met_zero span objects above oid = refl

-- it is the object itself, or met below a child of it
abbrev Below : Span → (ℕ → Held) → ℕ → List ℕ → ℕ → ℕ → Type 0
Below span objects room above oid q = (nat_eq oid q ≡ true) ⊎ ((x : ℕ) × (stands_in (children_in span (objects oid)) x ≡ true) × (stands_in (met_at span room objects (oid ∷ above) x) q ≡ true))

below_one : (span : Span) (objects : ℕ → Held) (room : ℕ) (above : List ℕ) (oid q : ℕ) → (nat_eq oid q ≡ true) ⊎ (stands_in (met_in_turn (met_at span room objects (oid ∷ above)) (children_in span (objects oid))) q ≡ true) → Below span objects room above oid q
below_one span objects room above oid q (inl h) = inl h
below_one span objects room above oid q (inr h) = inr (in_one (met_at span room objects (oid ∷ above)) (children_in span (objects oid)) q h)

split_test : (span : Span) (objects : ℕ → Held) (room : ℕ) (above : List ℕ) (oid q : ℕ) (b : Bool) → stands_in above oid ≡ b
    → stands_in (if b then [] else oid ∷ met_in_turn (met_at span room objects (oid ∷ above)) (children_in span (objects oid))) q ≡ true → (stands_in above oid ≡ false) × Below span objects room above oid q
split_test span objects room above oid q true s h = absurd cc
split_test span objects room above oid q false s h = (s, below_one span objects room above oid q (or_cases (nat_eq oid q) (stands_in (met_in_turn (met_at span room objects (oid ∷ above)) (children_in span (objects oid))) q) h))

met_split : (span : Span) (objects : ℕ → Held) (room : ℕ) (above : List ℕ) (oid q : ℕ) → stands_in (met_at span (suc room) objects above oid) q ≡ true → (stands_in above oid ≡ false) × Below span objects room above oid q
met_split span objects room above oid q e = split_test span objects room above oid q (stands_in above oid) refl (ap (λ xs. stands_in xs q) (sym (met_suc span objects room above oid)) ∙ e)

join_one : (span : Span) (objects : ℕ → Held) (room : ℕ) (above : List ℕ) (oid q : ℕ) → Below span objects room above oid q → (nat_eq oid q || stands_in (met_in_turn (met_at span room objects (oid ∷ above)) (children_in span (objects oid))) q) ≡ true
join_one span objects room above oid q (inl h) = or_here (nat_eq oid q) _ h
join_one span objects room above oid q (inr h) = or_there (nat_eq oid q) _ (of_one (met_at span room objects (oid ∷ above)) (children_in span (objects oid)) h.0 q h.1 h.2)

met_join : (span : Span) (objects : ℕ → Held) (room : ℕ) (above : List ℕ) (oid q : ℕ) → stands_in above oid ≡ false → Below span objects room above oid q → stands_in (met_at span (suc room) objects above oid) q ≡ true
met_join span objects room above oid q s c =
    ap (λ xs. stands_in xs q) (met_suc span objects room above oid)
    ∙ ap (λ b. stands_in (if b then [] else oid ∷ met_in_turn (met_at span room objects (oid ∷ above)) (children_in span (objects oid))) q) s
    ∙ join_one span objects room above oid q c

-- with more room as much is met
below_more : (span : Span) (objects : ℕ → Held) (room : ℕ) (above : List ℕ) (oid q : ℕ) → ((x : ℕ) → stands_in (met_at span room objects (oid ∷ above) x) q ≡ true → stands_in (met_at span (suc room) objects (oid ∷ above) x) q ≡ true)
    → Below span objects room above oid q → Below span objects (suc room) above oid q
below_more span objects room above oid q later (inl h) = inl h
below_more span objects room above oid q later (inr h) = inr (h.0, h.1, later h.0 h.2)

met_more : (span : Span) (objects : ℕ → Held) (room : ℕ) (above : List ℕ) (oid q : ℕ) → stands_in (met_at span room objects above oid) q ≡ true → stands_in (met_at span (suc room) objects above oid) q ≡ true
met_more span objects zero above oid q e = let none : stands_in [] q ≡ true = ap (λ xs. stands_in xs q) (sym (met_zero span objects above oid)) ∙ e in absurd cc
met_more span objects (suc room) above oid q e =
    let s = met_split span objects room above oid q e in
    met_join span objects (suc room) above oid q s.0 (below_more span objects room above oid q (λ x h. met_more span objects room (oid ∷ above) x q h) s.1)

more_by : (span : Span) (objects : ℕ → Held) (more room : ℕ) (above : List ℕ) (oid q : ℕ) → stands_in (met_at span room objects above oid) q ≡ true → stands_in (met_at span (room + more) objects above oid) q ≡ true
more_by span objects zero room above oid q e = let same : room + zero ≡ room = omega arith in ap (λ n. stands_in (met_at span n objects above oid) q) same ∙ e
more_by span objects (suc more) room above oid q e =
    let same : room + suc more ≡ suc (room + more) = omega arith in
    ap (λ n. stands_in (met_at span n objects above oid) q) same ∙ met_more span objects (room + more) above oid q (more_by span objects more room above oid q e)

pub met_within : (span : Span) (objects : ℕ → Held) (room all : ℕ) (above : List ℕ) (oid q : ℕ) → room ≤ all → stands_in (met_at span room objects above oid) q ≡ true → stands_in (met_at span all objects above oid) q ≡ true
met_within span objects room all above oid q l e =
    let same : all ≡ room + (all - room) = omega (arith, l) in
    ap (λ n. stands_in (met_at span n objects above oid) q) same ∙ more_by span objects (all - room) room above oid q e

-- a child of what is met is met too, or stands above
abbrev IsMetOr : Span → (ℕ → Held) → ℕ → List ℕ → ℕ → ℕ → Type 0
IsMetOr span objects room above oid c = (stands_in above c ≡ true) ⊎ (stands_in (met_at span room objects above oid) c ≡ true)

among : (span : Span) (objects : ℕ → Held) (room : ℕ) (above : List ℕ) (oid c : ℕ) → stands_in above oid ≡ false → (nat_eq oid c ≡ true) ⊎ (stands_in above c ≡ true) → IsMetOr span objects (suc room) above oid c
among span objects room above oid c s (inl e) = inr (met_join span objects room above oid c s (inl e))
among span objects room above oid c s (inr a) = inl a

own_child : (span : Span) (objects : ℕ → Held) (room : ℕ) (above : List ℕ) (oid c : ℕ) (b : Bool) → stands_in above oid ≡ false → stands_in (children_in span (objects oid)) c ≡ true → stands_in (oid ∷ above) c ≡ b → IsMetOr span objects (suc (suc room)) above oid c
own_child span objects room above oid c true s k n = among span objects (suc room) above oid c s (or_cases (nat_eq oid c) (stands_in above c) n)
own_child span objects room above oid c false s k n = inr (met_join span objects (suc room) above oid c s (inr (c, k, met_join span objects room (oid ∷ above) c c n (inl (own_number c)))))

lower_child : (span : Span) (objects : ℕ → Held) (room : ℕ) (above : List ℕ) (oid x c : ℕ) → stands_in above oid ≡ false → stands_in (children_in span (objects oid)) x ≡ true → IsMetOr span objects (suc room) (oid ∷ above) x c → IsMetOr span objects (suc (suc room)) above oid c
lower_child span objects room above oid x c s i (inl n) = among span objects (suc room) above oid c s (or_cases (nat_eq oid c) (stands_in above c) n)
lower_child span objects room above oid x c s i (inr n) = inr (met_join span objects (suc room) above oid c s (inr (x, i, n)))

child_of_below : (span : Span) (objects : ℕ → Held) (room : ℕ) (above : List ℕ) (oid q c : ℕ) → stands_in above oid ≡ false → stands_in (children_in span (objects q)) c ≡ true
    → ((x : ℕ) → stands_in (met_at span room objects (oid ∷ above) x) q ≡ true → IsMetOr span objects (suc room) (oid ∷ above) x c)
    → Below span objects room above oid q → IsMetOr span objects (suc (suc room)) above oid c
child_of_below span objects room above oid q c s k later (inl h) = own_child span objects room above oid c (stands_in (oid ∷ above) c) s (ap (λ n. stands_in (children_in span (objects n)) c) (same_number oid q h) ∙ k) refl
child_of_below span objects room above oid q c s k later (inr h) = lower_child span objects room above oid h.0 c s h.1 (later h.0 h.2)

met_child : (span : Span) (objects : ℕ → Held) (room : ℕ) (above : List ℕ) (oid q c : ℕ) → stands_in (met_at span room objects above oid) q ≡ true → stands_in (children_in span (objects q)) c ≡ true → IsMetOr span objects (suc room) above oid c
met_child span objects zero above oid q c e k = let none : stands_in [] q ≡ true = ap (λ xs. stands_in xs q) (sym (met_zero span objects above oid)) ∙ e in absurd cc
met_child span objects (suc room) above oid q c e k =
    let s = met_split span objects room above oid q e in
    child_of_below span objects room above oid q c s.0 k (λ x h. met_child span objects room (oid ∷ above) x q c h k) s.1

none_above : (span : Span) (objects : ℕ → Held) (room oid c : ℕ) → IsMetOr span objects room [] oid c → stands_in (met_at span room objects [] oid) c ≡ true
none_above span objects room oid c (inl a) = absurd cc
none_above span objects room oid c (inr a) = a

-- below the root it is met
pub root_child : (span : Span) (objects : ℕ → Held) (room oid q c : ℕ) → stands_in (met_at span room objects [] oid) q ≡ true → stands_in (children_in span (objects q)) c ≡ true → stands_in (met_at span (suc room) objects [] oid) c ≡ true
root_child span objects room oid q c e k = none_above span objects (suc room) oid c (met_child span objects room [] oid q c e k)

-- the root is met
pub met_root : (span : Span) (objects : ℕ → Held) (oid : ℕ) → stands_in (met_at span 1 objects [] oid) oid ≡ true
met_root span objects oid = met_join span objects 0 [] oid oid refl (inl (own_number oid))
