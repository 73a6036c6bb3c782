-- The references of a copy name what those of the graph name.
use Rattle.std.proofs.Common.{◌≡◌, ℕ, zero, suc, true, List, [], ◌∷◌, Option, Some, refl, sym, ◌∙◌, ap, subst}
use Rattle.std.specs.Prelude.{slice_get}
use Rattle.pickle_graph.specs.declared.node.Node.{Node}
use Rattle.pickle_graph.specs.declared.node.Node.TheVariants as kinds
use Rattle.pickle_references.specs.declared.references.Named.{Named}
use Rattle.pickle_references.specs.declared.references.Named.TheVariants.{Strong, Weak, Bad}
use Rattle.pickle_references.specs.References.{oid_in, oid_of, named_first, named_by}
use Rattle.pickle_graph.specs.Same.{HasOrigin, HaveOrigins, IsCopy, AllCopies}
use Rattle.pickle_references.specs.Named.{with_name, named_in, CopiesAreNamed}
use Rattle.pickle_references.specs.Cores.{name_of, has_form, split_name}

record Copied (origin : List ℕ) (g copy : List Node) (n m : ℕ) : Type 0 where
  node : Node
  here : slice_get copy n ≡ Some node
  is : IsCopy origin node (slice_get g m)

copied : (origin : List ℕ) (g copy : List Node) (ms : List ℕ) (n m : ℕ) → AllCopies origin g copy ms → slice_get ms n ≡ Some m → Copied origin g copy n m
copied origin g [] [] n m h e = absurd cc
copied origin g [] (k ∷ ms) n m h e = absurd h
copied origin g (x ∷ copy) [] n m h e = absurd h
copied origin g (x ∷ copy) (k ∷ ms) zero m h e = let same : k ≡ m = cc in record { node = x; here = refl; is = subst (λ (i : ℕ). IsCopy origin x (slice_get g i)) same h.0 }
copied origin g (x ∷ copy) (k ∷ ms) (suc n) m h e = let c = copied origin g copy ms n m h.1 e in record { node = c.node; here = c.here; is = c.is }

oid-alike : (origin : List ℕ) (x : Node) (old : Option Node) → IsCopy origin x old → oid_of (Some x) ≡ oid_of old
oid-alike origin (kinds.Bytes a) (Some (kinds.Bytes b)) h = ap oid_in h
oid-alike origin (kinds.OldText a) (Some (kinds.OldText b)) h = ap oid_in h
oid-alike origin (kinds.Bytes a) old h = absurd h
oid-alike origin (kinds.OldText a) old h = absurd h
oid-alike origin x (Some (kinds.Bytes b)) h = absurd h
oid-alike origin x (Some (kinds.OldText b)) h = absurd h
oid-alike origin x old h = refl

-- a reference among nodes whose references all name something names something
pub form-of : (g : List Node) (xs : List Node) (i id : ℕ) (oids : List ℕ) → named_in g xs ≡ Some oids → slice_get xs i ≡ Some (kinds.Reference id) → has_form (name_of g id) ≡ true
form-of g [] i id oids h e = absurd cc
form-of g (kinds.Reference j ∷ xs) zero id oids h e =
    let same : kinds.Reference j ≡ kinds.Reference id = cc in
    let k : j ≡ id = cc in
    ap (λ (n : ℕ). has_form (name_of g n)) (sym k) ∙ (split_name (name_of g j) (named_in g xs) oids h).form
form-of g (kinds.Reference j ∷ xs) (suc i) id oids h e = let s = split_name (name_of g j) (named_in g xs) oids h in form-of g xs i id s.tail s.found e
form-of g (x ∷ xs) zero id oids h e = absurd cc
form-of g (x ∷ xs) (suc i) id oids h e = form-of g xs i id oids h e

pub more-names : (n : Named) (oids : List ℕ) → has_form n ≡ true → (all_oids : List ℕ) × (with_name n (Some oids) ≡ Some all_oids)
more-names (Strong oid) oids h = (oid ∷ oids, refl)
more-names Weak oids h = (oids, refl)
more-names Bad oids h = absurd cc

module _ (origin : List ℕ) (g copy : List Node) (all : AllCopies origin g copy origin) where
  first-alike : (ns ms : List ℕ) → HaveOrigins origin ns ms → named_first copy ns ≡ named_first g ms
  first-alike [] [] h = refl
  first-alike [] (m ∷ ms) h = absurd h
  first-alike (n ∷ ns) [] h = absurd h
  first-alike (n ∷ ns) (m ∷ ms) h = let c = copied origin g copy origin n m all h.0 in ap oid_of c.here ∙ oid-alike origin c.node (slice_get g m) c.is

  by-alike : (x : Node) (old : Option Node) → IsCopy origin x old → named_by copy (Some x) ≡ named_by g old
  by-alike (kinds.Tuple ns) (Some (kinds.Tuple ms)) h = first-alike ns ms h
  by-alike (kinds.List ns) (Some (kinds.List ms)) h = refl
  by-alike (kinds.Tuple ns) old h = absurd h
  by-alike (kinds.List ns) old h = absurd h
  by-alike x (Some (kinds.Tuple ms)) h = absurd h
  by-alike x (Some (kinds.List ms)) h = absurd h
  by-alike x old h = oid-alike origin x old h

  pub name-alike : (n m : ℕ) → HasOrigin origin n m → name_of copy n ≡ name_of g m
  name-alike n m h = let c = copied origin g copy origin n m all h in ap (named_by copy) c.here ∙ by-alike c.node (slice_get g m) c.is

  ref-form : (oids : List ℕ) (n k : ℕ) (old : Option Node) → named_in g g ≡ Some oids → slice_get g k ≡ old → IsCopy origin (kinds.Reference n) old → has_form (name_of copy n) ≡ true
  ref-form oids n k (Some (kinds.Reference m)) h e c = ap has_form (name-alike n m c) ∙ form-of g g k m oids h e
  ref-form oids n k _ h e c = absurd c

  in-alike : (oids : List ℕ) (xs : List Node) (ms : List ℕ) → named_in g g ≡ Some oids → AllCopies origin g xs ms → (told : List ℕ) × (named_in copy xs ≡ Some told)
  in-alike oids [] [] h c = ([], refl)
  in-alike oids [] (k ∷ ms) h c = absurd c
  in-alike oids (x ∷ xs) [] h c = absurd c
  in-alike oids (kinds.Reference n ∷ xs) (k ∷ ms) h c =
      let rest = in-alike oids xs ms h c.1 in
      let one = more-names (name_of copy n) rest.0 (ref-form oids n k (slice_get g k) h refl c.0) in
      (one.0, ap (with_name (name_of copy n)) rest.1 ∙ one.1)
  in-alike oids (_ ∷ xs) (k ∷ ms) h c = in-alike oids xs ms h c.1

-- Where all references of a graph name something, so do those of a copy.
pub copies-named : CopiesAreNamed
copies-named g copy oids s h = in-alike s.origin g.nodes copy.nodes s.each oids copy.nodes s.origin h s.each
