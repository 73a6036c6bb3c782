-- Turns stand in their places exactly where each client's first line is its open, and it has no other.
use Rattle.std.proofs.Common.{◌≡◌, ℕ, Bool, true, false, cond, ◌&&◌, ◌||◌, List, [], ◌∷◌, ◌++◌, map, refl, sym, ap, subst, ◌∙◌, append_assoc, append-nil}
use Rattle.std.specs.Prelude.{not, filter}
use Rattle.std.specs.List.{list_any}
use Rattle.std.specs.Str.{bytes_eq}
use Rattle.std.proofs.lemmas.Bool.{and_parts}
use Rattle.std.proofs.lemmas.List.{map-append}
use Rattle.std.proofs.lemmas.List.Elements.{filter-append}
use Rattle.std.proofs.lemmas.Slice.Eq.{bytes_eq-Decides}
use Rattle.zb_script.specs.declared.line.Line.{Line}
use Rattle.zb_script.specs.declared.line.Line.TheVariants as line
use Rattle.zb_script.specs.declared.line.Turn.{Turn}
use Rattle.zb_script.specs.Shape.{is_open, linked, needs_no_link, openers, opens_link, is_among, can_stand, all_stand, lines_of, opens_first, ClientsOpenFirst}

-- ---- the lines of one client

lines_both : (client : List ℕ) (one other : List Turn) → lines_of client (one ++ other) ≡ lines_of client one ++ lines_of client other
lines_both client one other =
    ap (map (λ (t : Turn). t.line)) (filter-append (λ (t : Turn). bytes_eq client t.client) one other)
    ∙ map-append (λ (t : Turn). t.line) (filter (λ (t : Turn). bytes_eq client t.client) one) (filter (λ (t : Turn). bytes_eq client t.client) other)

-- a client is among those of lines of a kind where one of its lines is of it
found : (is : Line → Bool) (client : List ℕ) (t : Turn) (opens own : Bool) (names : List (List ℕ)) (lines : List Line) → is t.line ≡ opens → bytes_eq client t.client ≡ own
    → is_among client names ≡ list_any is lines
    → is_among client (cond opens (t.client ∷ names) names) ≡ list_any is (cond own (t.line ∷ lines) lines)
found is client t true true names lines o s e = rw (o, s) refl
found is client t true false names lines o s e = rw s e
found is client t false true names lines o s e = rw o e
found is client t false false names lines o s e = e

names_cond : (b : Bool) (t : Turn) (turns : List Turn) → map (λ (t : Turn). t.client) (cond b (t ∷ turns) turns) ≡ cond b (t.client ∷ map (λ (t : Turn). t.client) turns) (map (λ (t : Turn). t.client) turns)
names_cond true t turns = refl
names_cond false t turns = refl

lines_cond : (b : Bool) (t : Turn) (turns : List Turn) → map (λ (t : Turn). t.line) (cond b (t ∷ turns) turns) ≡ cond b (t.line ∷ map (λ (t : Turn). t.line) turns) (map (λ (t : Turn). t.line) turns)
lines_cond true t turns = refl
lines_cond false t turns = refl

among_is : (is : Line → Bool) (client : List ℕ) (turns : List Turn) → is_among client (map (λ (t : Turn). t.client) (filter (λ (t : Turn). is t.line) turns)) ≡ list_any is (lines_of client turns)
among_is is client [] = refl
among_is is client (t ∷ turns) =
    ap (is_among client) (names_cond (is t.line) t (filter (λ (t : Turn). is t.line) turns))
    ∙ found is client t (is t.line) (bytes_eq client t.client) (map (λ (t : Turn). t.client) (filter (λ (t : Turn). is t.line) turns)) (lines_of client turns) refl refl (among_is is client turns)
    ∙ ap (list_any is) (sym (lines_cond (bytes_eq client t.client) t (filter (λ (t : Turn). bytes_eq client t.client) turns)))

-- ---- one line more

abbrev Fits : Line → List Line → Type 0
Fits line lines = cond (is_open line) (not (list_any is_open lines)) (list_any is_open lines && not (needs_no_link line && list_any opens_link lines)) ≡ true

any_both : (is : Line → Bool) (one other : List Line) → list_any is (one ++ other) ≡ (list_any is one || list_any is other)
any_both is [] other = refl
any_both is (l ∷ one) other = by_first (is l) (any_both is one other)
  where
    by_first : (b : Bool) → list_any is (one ++ other) ≡ (list_any is one || list_any is other) → (b || list_any is (one ++ other)) ≡ ((b || list_any is one) || list_any is other)
    by_first true e = refl
    by_first false e = e

-- lines without an open have none over a link
unopened : (l : Line) → is_open l ≡ false → opens_link l ≡ false
unopened (line.Open remote) e = absurd cc
unopened _ e = refl

neither : (b c : Bool) → (b || c) ≡ false → (b ≡ false) × (c ≡ false)
neither true c e = absurd cc
neither false c e = (refl, e)

no_link : (lines : List Line) → list_any is_open lines ≡ false → list_any opens_link lines ≡ false
no_link [] e = refl
no_link (l ∷ lines) e =
    let p = neither (is_open l) (list_any is_open lines) e in
    ap (λ (b : Bool). b || list_any opens_link lines) (unopened l p.0) ∙ no_link lines p.1

-- whether the first is an open, and over a link; those behind it have an open, and one that needs no link; the new one is an open, and one that needs none
grow_bits : (first link later bars new bar behind : Bool) → (first && (not later && not (link && bars))) ≡ true → cond new (not (first || later)) ((first || later) && not (bar && (link || behind))) ≡ true
    → (first && (not (later || (new || false)) && not (link && (bars || (bar || false))))) ≡ true
grow_bits false link later bars new bar behind h fits = absurd cc
grow_bits true link true bars new bar behind h fits = absurd cc
grow_bits true link false bars true bar behind h fits = absurd cc
grow_bits true false false bars false bar behind h fits = refl
grow_bits true true false true false bar behind h fits = absurd cc
grow_bits true true false false false true behind h fits = absurd cc
grow_bits true true false false false false behind h fits = refl

grow_first : (new link bar : Bool) → cond new (not false) (false && not (bar && false)) ≡ true → (new && (not false && not (link && false))) ≡ true
grow_first true true bar fits = refl
grow_first true false bar fits = refl
grow_first false link bar fits = absurd cc

grow : (lines : List Line) (line : Line) → opens_first lines ≡ true → Fits line lines → opens_first (lines ++ line ∷ []) ≡ true
grow [] line h fits = grow_first (is_open line) (opens_link line) (needs_no_link line) fits
grow (l ∷ lines) line h fits =
    ap (λ (b : Bool). is_open l && (not b && not (opens_link l && list_any needs_no_link (lines ++ line ∷ [])))) (any_both is_open lines (line ∷ []))
    ∙ ap (λ (b : Bool). is_open l && (not (list_any is_open lines || (is_open line || false)) && not (opens_link l && b))) (any_both needs_no_link lines (line ∷ []))
    ∙ grow_bits (is_open l) (opens_link l) (list_any is_open lines) (list_any needs_no_link lines) (is_open line) (needs_no_link line) (list_any opens_link lines) h fits

fits_bits : (first link later bars new bar behind others more : Bool) → (later ≡ false → behind ≡ false) → (first && (not (later || (new || others)) && not (link && (bars || (bar || more))))) ≡ true
    → cond new (not (first || later)) ((first || later) && not (bar && (link || behind))) ≡ true
fits_bits false link later bars new bar behind others more none h = absurd cc
fits_bits true link true bars new bar behind others more none h = absurd cc
fits_bits true link false bars true bar behind others more none h = absurd cc
fits_bits true link false bars false false behind others more none h = refl
fits_bits true true false true false true behind others more none h = by_others others h
  where
    by_others : (b : Bool) → (true && (not (false || (false || b)) && false)) ≡ true → false ≡ true
    by_others true e = e
    by_others false e = e
fits_bits true true false false false true behind others more none h = by_others others h
  where
    by_others : (b : Bool) → (true && (not (false || (false || b)) && false)) ≡ true → false ≡ true
    by_others true e = e
    by_others false e = e
fits_bits true false false bars false true behind others more none h = rw (none refl) refl

fits_first : (new link bar others more : Bool) → (new && (not others && not (link && more))) ≡ true → cond new (not false) (false && not (bar && false)) ≡ true
fits_first true link bar others more h = refl
fits_first false link bar others more h = absurd cc

fits_before : (lines : List Line) (line : Line) (more : List Line) → opens_first (lines ++ line ∷ more) ≡ true → Fits line lines
fits_before [] line more h = fits_first (is_open line) (opens_link line) (needs_no_link line) (list_any is_open more) (list_any needs_no_link more) h
fits_before (l ∷ lines) line more h =
    fits_bits (is_open l) (opens_link l) (list_any is_open lines) (list_any needs_no_link lines) (is_open line) (needs_no_link line) (list_any opens_link lines) (list_any is_open more) (list_any needs_no_link more) (no_link lines)
    (sym (ap (λ (b : Bool). is_open l && (not (list_any is_open lines || list_any is_open (line ∷ more)) && not (opens_link l && b))) (any_both needs_no_link lines (line ∷ more)))
    ∙ (sym (ap (λ (b : Bool). is_open l && (not b && not (opens_link l && list_any needs_no_link (lines ++ line ∷ more)))) (any_both is_open lines (line ∷ more))) ∙ h))

-- ---- turns

abbrev AllOpenFirst : List Turn → Type 0
AllOpenFirst turns = (client : List ℕ) → opens_first (lines_of client turns) ≡ true

own_line : (client : List ℕ) → bytes_eq client client ≡ true
own_line client = (bytes_eq-Decides client client).1 refl

-- a turn can stand where its line fits behind those of its client
fits_by : (t : Turn) (before : List Turn) → can_stand before t ≡ true → Fits t.line (lines_of t.client before)
fits_by t before stands =
    subst (λ (b : Bool). cond (is_open t.line) (not b) (b && not (needs_no_link t.line && list_any opens_link (lines_of t.client before))) ≡ true) (among_is is_open t.client before)
    (subst (λ (b : Bool). cond (is_open t.line) (not (is_among t.client (openers before))) (is_among t.client (openers before) && not (needs_no_link t.line && b)) ≡ true) (among_is opens_link t.client before) stands)

one_more : (before : List Turn) (t : Turn) → AllOpenFirst before → can_stand before t ≡ true → AllOpenFirst (before ++ t ∷ [])
one_more before t all stands client = by_own (bytes_eq client t.client) refl
  where
    whole : (b : Bool) → bytes_eq client t.client ≡ b → lines_of client (before ++ t ∷ []) ≡ lines_of client before ++ cond b (t.line ∷ []) []
    whole b is = lines_both client before (t ∷ []) ∙ ap (λ (x : List Line). lines_of client before ++ x) (lines_cond (bytes_eq client t.client) t [] ∙ ap (λ (x : Bool). cond x (t.line ∷ []) []) is)

    by_own : (b : Bool) → bytes_eq client t.client ≡ b → opens_first (lines_of client (before ++ t ∷ [])) ≡ true
    by_own false is = ap opens_first (whole false is ∙ append-nil (lines_of client before)) ∙ all client
    by_own true is =
        let same : client ≡ t.client = (bytes_eq-Decides client t.client).0 is in
        let fits : Fits t.line (lines_of client before) = subst (λ (x : List ℕ). Fits t.line (lines_of x before)) (sym same) (fits_by t before stands) in
        ap opens_first (whole true is) ∙ grow (lines_of client before) t.line (all client) fits

pub all_open : (before turns : List Turn) → AllOpenFirst before → all_stand before turns ≡ true → AllOpenFirst (before ++ turns)
all_open before [] all h = subst AllOpenFirst (sym (append-nil before)) all
all_open before (t ∷ turns) all h =
    let p = and_parts (can_stand before t) (all_stand (before ++ t ∷ []) turns) h in
    subst AllOpenFirst (append_assoc before (t ∷ []) turns) (all_open (before ++ t ∷ []) turns (one_more before t all p.0) p.1)

both_true : (x y : Bool) → x ≡ true → y ≡ true → (x && y) ≡ true
both_true true y p q = q
both_true false y p q = absurd cc

stands_there : (before : List Turn) (t : Turn) (turns : List Turn) → AllOpenFirst (before ++ t ∷ turns) → can_stand before t ≡ true
stands_there before t turns all =
    let own : lines_of t.client (t ∷ turns) ≡ t.line ∷ lines_of t.client turns =
    lines_cond (bytes_eq t.client t.client) t (filter (λ (u : Turn). bytes_eq t.client u.client) turns) ∙ ap (λ (b : Bool). cond b (t.line ∷ lines_of t.client turns) (lines_of t.client turns)) (own_line t.client) in
    let whole : lines_of t.client (before ++ t ∷ turns) ≡ lines_of t.client before ++ t.line ∷ lines_of t.client turns =
    lines_both t.client before (t ∷ turns) ∙ ap (λ (x : List Line). lines_of t.client before ++ x) own in
    let fits = fits_before (lines_of t.client before) t.line (lines_of t.client turns) (sym (ap opens_first whole) ∙ all t.client) in
    subst (λ (b : Bool). cond (is_open t.line) (not b) (b && not (needs_no_link t.line && is_among t.client (linked before))) ≡ true) (sym (among_is is_open t.client before))
    (subst (λ (b : Bool). cond (is_open t.line) (not (list_any is_open (lines_of t.client before))) (list_any is_open (lines_of t.client before) && not (needs_no_link t.line && b)) ≡ true) (sym (among_is opens_link t.client before)) fits)

pub all_in_place : (before turns : List Turn) → AllOpenFirst (before ++ turns) → all_stand before turns ≡ true
all_in_place before [] all = refl
all_in_place before (t ∷ turns) all =
    both_true (can_stand before t) (all_stand (before ++ t ∷ []) turns) (stands_there before t turns all)
    (all_in_place (before ++ t ∷ []) turns (subst AllOpenFirst (sym (append_assoc before (t ∷ []) turns)) all))

pub open_first : ClientsOpenFirst
open_first turns = ((λ h. all_open [] turns (λ client. refl) h), (λ all. all_in_place [] turns all))
