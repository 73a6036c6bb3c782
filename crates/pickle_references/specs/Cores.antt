-- What references depend on in a node does not change as a pickle is read.
use Rattle.std.proofs.Common.{◌≡◌, ℕ, zero, suc, Bool, true, false, List, [], ◌∷◌, ◌++◌, Option, Some, None, refl, sym, ◌∙◌, ap, inl, inr}
use Rattle.std.specs.Prelude.{slice_get, map, ◌⊎◌}
use Rattle.std.specs.Option.{option_map}
use Rattle.std.proofs.lemmas.Option.{slice_get-map}
use Rattle.pickle_graph.specs.declared.node.Node.{Node}
use Rattle.pickle_graph.specs.declared.node.Node.TheVariants as kinds
use Rattle.pickle_references.specs.declared.references.Named.{Named}
use Rattle.pickle_references.specs.declared.references.Named.TheVariants.{Strong, Weak, Bad}
use Rattle.pickle_references.specs.References.{oid_of, named_first, named_by}
use Rattle.pickle_references.specs.Named.{with_name, named_in}

-- a node without what may be added to it, and without what references do not depend on
abbrev pub core : Node → Node
core (kinds.Bytes bytes) = kinds.Bytes bytes
core (kinds.OldText bytes) = kinds.OldText bytes
core (kinds.Tuple items) = kinds.Tuple items
core (kinds.List items) = kinds.List []
core (kinds.Reference id) = kinds.Reference id
core _ = kinds.None

oid-core : (n : Option Node) → oid_of (option_map core n) ≡ oid_of n
oid-core (Some (kinds.Bytes bytes)) = refl
oid-core _ = refl

first-core : (ns : List Node) (items : List ℕ) → named_first (map core ns) items ≡ named_first ns items
first-core ns [] = refl
first-core ns (first ∷ rest) = ap oid_of (slice_get-map core ns first) ∙ oid-core (slice_get ns first)

name-core : (ns : List Node) (n : Option Node) → named_by (map core ns) (option_map core n) ≡ named_by ns n
name-core ns (Some (kinds.Tuple items)) = first-core ns items
name-core ns _ = refl

-- what a number names
abbrev pub name_of : List Node → ℕ → Named
name_of ns id = named_by ns (slice_get ns id)

pub number-core : (ns : List Node) (id : ℕ) → name_of (map core ns) id ≡ name_of ns id
number-core ns id = ap (named_by (map core ns)) (slice_get-map core ns id) ∙ name-core ns (slice_get ns id)

pub in-core : (ns xs : List Node) → named_in (map core ns) (map core xs) ≡ named_in ns xs
in-core ns [] = refl
in-core ns (kinds.Reference id ∷ xs) = ap (λ n. with_name n (named_in (map core ns) (map core xs))) (number-core ns id) ∙ ap (with_name (name_of ns id)) (in-core ns xs)
in-core ns (_ ∷ xs) = in-core ns xs

-- ---- more nodes

abbrev pub has_form : Named → Bool
has_form Bad = false
has_form _ = true

pub get-on : {A : Type 0} (xs ys : List A) (i : ℕ) (x : A) → slice_get xs i ≡ Some x → slice_get (xs ++ ys) i ≡ Some x
get-on [] ys i x h = absurd cc
get-on (a ∷ xs) ys zero x h = h
get-on (a ∷ xs) ys (suc i) x h = get-on xs ys i x h

pub cases_get : {A : Type 0} (o : Option A) → (o ≡ None) ⊎ ((x : A) × (o ≡ Some x))
cases_get None = inl refl
cases_get (Some x) = inr (x, refl)

-- an oid that is found is found among more nodes
oid-on : (ns more : List Node) (i : ℕ) → has_form (oid_of (slice_get ns i)) ≡ true → oid_of (slice_get (ns ++ more) i) ≡ oid_of (slice_get ns i)
oid-on ns more i h = elim (cases_get (slice_get ns i)) [
  | inl e ↦ absurd (let k = ap (λ o. has_form (oid_of o)) e in cc)
  | inr f ↦ ap oid_of (get-on ns more i f.0 f.1 ∙ sym f.1)
]

first-on : (ns more : List Node) (items : List ℕ) → has_form (named_first ns items) ≡ true → named_first (ns ++ more) items ≡ named_first ns items
first-on ns more [] h = refl
first-on ns more (first ∷ rest) h = oid-on ns more first h

by-on : (ns more : List Node) (n : Option Node) → has_form (named_by ns n) ≡ true → named_by (ns ++ more) n ≡ named_by ns n
by-on ns more (Some (kinds.Tuple items)) h = first-on ns more items h
by-on ns more _ h = refl

-- what names something names the same among more nodes
pub name-on : (ns more : List Node) (id : ℕ) → has_form (name_of ns id) ≡ true → name_of (ns ++ more) id ≡ name_of ns id
name-on ns more id h = elim (cases_get (slice_get ns id)) [
  | inl e ↦ absurd (let k = ap (λ o. has_form (named_by ns o)) e in cc)
  | inr f ↦ ap (named_by (ns ++ more)) (get-on ns more id f.0 f.1 ∙ sym f.1) ∙ by-on ns more (slice_get ns id) h
]

-- ---- lists of names

pub record Split (n : Named) (rest : Option (List ℕ)) (oids : List ℕ) : Type 0 where
  pub form : has_form n ≡ true
  pub tail : List ℕ
  pub found : rest ≡ Some tail
  pub whole : with_name n (Some tail) ≡ Some oids

pub split_name : (n : Named) (rest : Option (List ℕ)) (oids : List ℕ) → with_name n rest ≡ Some oids → Split n rest oids
split_name n None oids h = absurd cc
split_name (Strong oid) (Some tail) oids h = record { form = refl; tail = tail; found = refl; whole = h }
split_name Weak (Some tail) oids h = record { form = refl; tail = tail; found = refl; whole = h }
split_name Bad (Some tail) oids h = absurd cc

pub in-on : (ns more xs : List Node) (oids : List ℕ) → named_in ns xs ≡ Some oids → named_in (ns ++ more) xs ≡ Some oids
in-on ns more [] oids h = h
in-on ns more (kinds.Reference id ∷ xs) oids h =
    let s = split_name (name_of ns id) (named_in ns xs) oids h in
    ap (λ n. with_name n (named_in (ns ++ more) xs)) (name-on ns more id s.form) ∙ ap (with_name (name_of ns id)) (in-on ns more xs s.tail s.found) ∙ s.whole
in-on ns more (_ ∷ xs) oids h = in-on ns more xs oids h

with-front : (n : Named) (a b oids : List ℕ) → with_name n (Some a) ≡ Some oids → with_name n (Some (a ++ b)) ≡ Some (oids ++ b)
with-front (Strong oid) a b oids h = let e : oid ∷ a ≡ oids = cc in ap (λ (l : List ℕ). Some (l ++ b)) e
with-front Weak a b oids h = let e : a ≡ oids = cc in ap (λ (l : List ℕ). Some (l ++ b)) e
with-front Bad a b oids h = absurd cc

pub in-append : (ns xs ys : List Node) (a b : List ℕ) → named_in ns xs ≡ Some a → named_in ns ys ≡ Some b → named_in ns (xs ++ ys) ≡ Some (a ++ b)
in-append ns [] ys a b h k = let e : [] ≡ a = cc in k ∙ ap (λ (l : List ℕ). Some (l ++ b)) e
in-append ns (kinds.Reference id ∷ xs) ys a b h k =
    let s = split_name (name_of ns id) (named_in ns xs) a h in
    ap (with_name (name_of ns id)) (in-append ns xs ys s.tail b s.found k) ∙ with-front (name_of ns id) s.tail b a s.whole
in-append ns (_ ∷ xs) ys a b h k = in-append ns xs ys a b h k
