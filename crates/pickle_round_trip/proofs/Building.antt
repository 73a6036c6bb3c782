-- What the texts of nodes build, in any state.
use Rattle.std.proofs.Common.{◌≡◌, ℕ, ◌+◌, ◌<◌, ◌≤◌, List, [], ◌∷◌, ◌++◌, length, Option, Some, refl, arith, sym, ◌∙◌, ap, subst, append_assoc, length-append, ltb, ◌⊎◌, inl, inr}
use Rattle.std.specs.Prelude.{slice_get}
use Rattle.std.proofs.lemmas.List.{append-nil}
use Rattle.std.proofs.lemmas.Bool.{ltb-true, ltb-false}
use Rattle.pickle_ops.specs.Laws.{SpelledIsRead}
use Rattle.pickle_graph.specs.declared.node.Node.{Node}
use Rattle.pickle_reading.specs.Nodes.{State}
use Rattle.pickle_reading.specs.declared.state.Item.{Item}
use Rattle.pickle_reading.specs.declared.state.Item.TheVariants.{Value}
use Rattle.pickle_reading.specs.Steps.{make, leaf_or}
use Rattle.pickle_reading.specs.Nodes.{step, act_of}
use Rattle.pickle_writing.specs.Shared.{times}
use Rattle.pickle_writing.specs.Spelling.{Piece, no_piece, followed}
use Rattle.pickle_graph.specs.Same.{HaveOrigins, IsCopy, AllCopies}
use Rattle.pickle_graph.specs.WalkLaws.{cases_bool}
use Rattle.pickle_writing.specs.SharedLaws.{times-append}
use Rattle.pickle_round_trip.proofs.Going.{Goes, Stops, goes_none, goes_then, goes_to, stops_left, stops_right, goes_make, stops_make}
use Rattle.pickle_round_trip.proofs.LeafBack.{MakesLeaf}
use Rattle.pickle_round_trip.proofs.Standing.{get-more, get-here, copies-more, copies-append, copies-length, tuples-copies, MemoHas, memo-more, Stands, at_end, stands-end}

abbrev pub values_onto : List ℕ → List Item → List Item
values_onto [] stack = stack
values_onto (v ∷ vs) stack = values_onto vs (Value v ∷ stack)

-- a piece built a node that stands for m
pub record Built (g : List Node) (m : ℕ) (p : Piece) (os : List ℕ) (s : State) (o : List ℕ) : Type 0 where
  pub nodes : List Node
  pub number : ℕ
  pub memo : List (ℕ × ℕ)
  pub goes : Goes s p.text (at_end s nodes (Value number ∷ s.stack) memo)
  pub copies : AllCopies (o ++ os) g nodes os
  pub found : slice_get (o ++ os) number ≡ Some m
  pub puts : MemoHas (o ++ os) memo p.puts

pub record AllBuilt (g : List Node) (ms : List ℕ) (p : Piece) (os : List ℕ) (s : State) (o : List ℕ) : Type 0 where
  pub nodes : List Node
  pub numbers : List ℕ
  pub memo : List (ℕ × ℕ)
  pub goes : Goes s p.text (at_end s nodes (values_onto numbers s.stack) memo)
  pub copies : AllCopies (o ++ os) g nodes os
  pub found : HaveOrigins (o ++ os) numbers ms
  pub puts : MemoHas (o ++ os) memo p.puts

-- A piece behind puts, with the nodes whose texts it has: it builds them where there is room, else it stops.
pub record Shown (g : List Node) (m : ℕ) (p : Piece) (puts vs : List ℕ) : Type 0 where
  pub origins : List ℕ
  pub size : p.made ≡ length origins
  pub same : (k : ℕ) → times k origins ≡ times k vs
  pub few : length p.puts ≤ length puts + p.made
  pub built : (s : State) (o : List ℕ) → Stands g o s puts → length s.nodes + p.made ≤ s.limit → Built g m p origins s o
  pub beyond : (s : State) (o : List ℕ) → Stands g o s puts → length s.nodes ≤ s.limit → s.limit < length s.nodes + p.made → Stops s p.text

pub record AllShown (g : List Node) (ms : List ℕ) (p : Piece) (puts vs : List ℕ) : Type 0 where
  pub origins : List ℕ
  pub size : p.made ≡ length origins
  pub same : (k : ℕ) → times k origins ≡ times k vs
  pub few : length p.puts ≤ length puts + p.made
  pub built : (s : State) (o : List ℕ) → Stands g o s puts → length s.nodes + p.made ≤ s.limit → AllBuilt g ms p origins s o
  pub beyond : (s : State) (o : List ℕ) → Stands g o s puts → length s.nodes ≤ s.limit → s.limit < length s.nodes + p.made → Stops s p.text

pub same_end : (s : State) (a b : List Node) (stack : List Item) (memo : List (ℕ × ℕ)) → a ≡ b → record s { nodes = a; stack = stack; memo = memo } ≡ record s { nodes = b; stack = stack; memo = memo }
same_end s a b stack memo e = ap (λ (ns : List Node). record s { nodes = ns; stack = stack; memo = memo }) e

pub room_or : (a b : ℕ) → (a ≤ b) ⊎ (b < a)
room_or a b = elim (cases_bool (ltb b a)) [ inl e ↦ inr (ltb-true b a e) | inr e ↦ inl (ltb-false b a e) ]

-- ---- items

pub none_shown : (g : List Node) (puts : List ℕ) → AllShown g [] (no_piece puts) puts []
none_shown g puts = record {
  origins = [];
  size = refl;
  same = λ k. refl;
  few = omega arith;
  built = λ s o st room. record {
    nodes = [];
    numbers = [];
    memo = s.memo;
    goes = goes_to s s (at_end s [] s.stack s.memo) [] (same_end s s.nodes (s.nodes ++ []) s.stack s.memo (sym (append-nil s.nodes))) (goes_none s);
    copies = tt;
    found = tt;
    puts = memo-more o [] s.memo puts st.memo;
  };
  beyond = λ s o st room over. absurd (omega (arith, room, over));
}

pub more_shown : (g : List Node) (m : ℕ) (ms : List ℕ) (p q : Piece) (puts vs us : List ℕ) → Shown g m p puts vs → AllShown g ms q p.puts us → AllShown g (m ∷ ms) (followed p q) puts (vs ++ us)
more_shown g m ms p q puts vs us a b = record {
  origins = a.origins ++ b.origins;
  size = omega (arith, a.size, b.size, length-append a.origins b.origins);
  same = λ k. let e = a.same k in let f = b.same k in let h = times-append k a.origins b.origins in let i = times-append k vs us in omega (arith, e, f, h, i);
  few = omega (arith, a.few, b.few);
  built = λ s o st room.
      let x = a.built s o st (omega (arith, room)) in
      let len = copies-length (o ++ a.origins) g x.nodes a.origins x.copies in
      let s₁ : State = at_end s x.nodes (Value x.number ∷ s.stack) x.memo in
      let st₁ = stands-end g o a.origins s puts p.puts x.nodes (Value x.number ∷ s.stack) x.memo st len (tuples-copies (o ++ a.origins) g x.nodes a.origins x.copies) x.puts (omega (arith, a.few, a.size)) in
      let y = b.built s₁ (o ++ a.origins) st₁ (omega (arith, room, length-append s.nodes x.nodes, len, a.size)) in
      let joined : (o ++ a.origins) ++ b.origins ≡ o ++ (a.origins ++ b.origins) = append_assoc o a.origins b.origins in
      record {
        nodes = x.nodes ++ y.nodes;
        numbers = x.number ∷ y.numbers;
        memo = y.memo;
        goes = goes_to s (at_end s₁ y.nodes (values_onto y.numbers s₁.stack) y.memo) (at_end s (x.nodes ++ y.nodes) (values_onto y.numbers (Value x.number ∷ s.stack)) y.memo) (p.text ++ q.text) (same_end s ((s.nodes ++ x.nodes) ++ y.nodes) (s.nodes ++ (x.nodes ++ y.nodes)) (values_onto y.numbers (Value x.number ∷ s.stack)) y.memo (append_assoc s.nodes x.nodes y.nodes))
            (goes_then s s₁ (at_end s₁ y.nodes (values_onto y.numbers s₁.stack) y.memo) p.text q.text x.goes y.goes);
        copies =
            let P : List ℕ → Type 0 = λ all. AllCopies all g (x.nodes ++ y.nodes) (a.origins ++ b.origins) in
            subst P joined (copies-append _ g x.nodes a.origins y.nodes b.origins (copies-more (o ++ a.origins) b.origins g x.nodes a.origins x.copies) y.copies);
        found =
            let P : List ℕ → Type 0 = λ all. HaveOrigins all (x.number ∷ y.numbers) (m ∷ ms) in
            subst P joined (get-more (o ++ a.origins) b.origins x.number m x.found, y.found);
        puts = let P : List ℕ → Type 0 = λ all. MemoHas all y.memo q.puts in subst P joined y.puts;
      };
  beyond = λ s o st room over. elim (room_or (length s.nodes + p.made) s.limit) [
    | inl fits ↦
        let x = a.built s o st fits in
        let len = copies-length (o ++ a.origins) g x.nodes a.origins x.copies in
        let s₁ : State = at_end s x.nodes (Value x.number ∷ s.stack) x.memo in
        let st₁ = stands-end g o a.origins s puts p.puts x.nodes (Value x.number ∷ s.stack) x.memo st len (tuples-copies (o ++ a.origins) g x.nodes a.origins x.copies) x.puts (omega (arith, a.few, a.size)) in
        stops_right s s₁ p.text q.text x.goes (b.beyond s₁ (o ++ a.origins) st₁ (omega (arith, fits, length-append s.nodes x.nodes, len, a.size)) (omega (arith, over, length-append s.nodes x.nodes, len, a.size)))
    | inr none ↦ stops_left s p.text q.text (a.beyond s o st room none)
  ];
}

-- ---- other pieces that are the same

pub piece_is : (p q : Piece) → p.text ≡ q.text → p.puts ≡ q.puts → p.made ≡ q.made → p ≡ q
piece_is p q a b c =
    ap (λ (t : List ℕ). record { text = t; puts = p.puts; made = p.made }) a ∙ ap (λ (t : List ℕ). record { text = q.text; puts = t; made = p.made }) b ∙ ap (λ (n : ℕ). record { text = q.text; puts = q.puts; made = n }) c

pub shown_as : (g : List Node) (m : ℕ) (p q : Piece) (puts vs us : List ℕ) → p ≡ q → ((k : ℕ) → times k vs ≡ times k us) → Shown g m p puts vs → Shown g m q puts us
shown_as g m p q puts vs us e f a =
    let b : Shown g m p puts us = record { origins = a.origins; size = a.size; same = λ k. a.same k ∙ f k; few = a.few; built = a.built; beyond = a.beyond } in
    subst (λ (x : Piece). Shown g m x puts us) e b

pub all_as : (g : List Node) (ms ns : List ℕ) (p q : Piece) (puts vs us : List ℕ) → ms ≡ ns → p ≡ q → vs ≡ us → AllShown g ms p puts vs → AllShown g ns q puts us
all_as g ms ns p q puts vs us d e f a =
    subst (λ (x : List ℕ). AllShown g ns q puts x) f (subst (λ (x : Piece). AllShown g ns x puts vs) e (subst (λ (x : List ℕ). AllShown g x p puts vs) d a))

module _ (sr : SpelledIsRead) where
  -- ---- leaves

  pub leaf_shown : (g : List Node) (m : ℕ) (x : Node) (text puts : List ℕ) → slice_get g m ≡ Some x → ((o : List ℕ) → IsCopy o x (Some x)) → MakesLeaf x text → Shown g m (record { text = text; puts = puts; made = 1 }) puts (m ∷ [])
  leaf_shown g m x text puts here copy l =
      let does : (s : State) (at : ℕ) → step l.op at l.number l.held s ≡ make at x s = λ s at. ap (λ (f : Option Node). leaf_or at s f (act_of l.op at l.number s)) l.makes in
      record {
        origins = m ∷ [];
        size = refl;
        same = λ k. refl;
        few = omega arith;
        built = λ s o st room. record {
          nodes = x ∷ [];
          number = length s.nodes;
          memo = s.memo;
          goes = goes_make sr s s x text l.op l.number l.held l.spells (does s) (omega (arith, room));
          copies = (subst (λ (f : Option Node). IsCopy (o ++ m ∷ []) x f) (sym here) (copy (o ++ m ∷ [])), tt);
          found = get-here o [] m (length s.nodes) st.count;
          puts = memo-more o (m ∷ []) s.memo puts st.memo;
        };
        beyond = λ s o st room over. stops_make sr s s x text l.op l.number l.held l.spells (does s) (omega (arith, room, over));
      }
