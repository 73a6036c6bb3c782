-- Nodes with items: made, grown, put and got again.
use Rattle.std.proofs.Common.{◌≡◌, ℕ, ◌+◌, ◌^◌, ◌<◌, ◌≤◌, pos, Bool, true, false, List, [], ◌∷◌, ◌++◌, length, Option, Some, Ok, refl, arith, sym, ◌∙◌, ap, subst, append_assoc, length-append, ltb, inl, inr}
use Rattle.std.specs.Prelude.{slice_get, slice_set}
use Rattle.std.proofs.lemmas.List.{append-nil}
use Rattle.byteorder.specs.Endian.{little_bytes}
use Rattle.byteorder.specs.Numbers.{length-bytes_low_first}
use Rattle.pickle_ops.specs.declared.table.TheConstants.{TABLE}
use Rattle.pickle_ops.specs.declared.table.Op.{Op}
use Rattle.pickle_ops.specs.declared.table.Op.TheVariants as ops
use Rattle.pickle_ops.specs.declared.table.Kind.TheVariants as args
use Rattle.pickle_ops.specs.Rows.{row_in}
use Rattle.pickle_ops.specs.Laws.{SpelledIsRead}
use Rattle.pickle_graph.specs.declared.node.Node.{Node}
use Rattle.pickle_reading.specs.Nodes.{State}
use Rattle.pickle_reading.specs.declared.state.Item.{Item}
use Rattle.pickle_reading.specs.declared.state.Item.TheVariants.{Value, Mark}
use Rattle.pickle_graph.specs.Graph.{is_tuple}
use Rattle.pickle_reading.specs.Leaves.{leaf_of}
use Rattle.pickle_reading.specs.Stacks.{put_at, node_at}
use Rattle.pickle_reading.specs.Steps.{make, leaf_or, get_of, put_of}
use Rattle.pickle_reading.specs.Nodes.{step, act_of}
use Rattle.pickle_reading.specs.Reading.{is_stop}
use Rattle.pickle_writing.specs.Shared.{times}
use Rattle.pickle_writing.specs.Spelling.{Piece, put_number, get_text, put_text, put_behind}
use Rattle.pickle_graph.specs.Same.{HaveOrigins, IsCopy, AllCopies}
use Rattle.pickle_graph.specs.WalkLaws.{cases_bool}
use Rattle.pickle_writing.specs.SharedLaws.{times-append}
use Rattle.pickle_round_trip.proofs.Going.{Goes, Stops, goes_none, goes_then, goes_to, stops_left, stops_right, Spells, goes_token, goes_make, stops_make, made}
use Rattle.pickle_round_trip.proofs.LeafBack.{byte_value, read_back}
use Rattle.pickle_round_trip.proofs.Standing.{get-more, get-here, get-between, set-between, copies-more, copies-append, copies-length, Tuples, tuples-copies, tuples-append, tuples-one, MemoHas, memo-more, place-less, memo-put, Stands, at_end, stands-end}
use Rattle.pickle_round_trip.proofs.Building.{values_onto, Shown, AllShown, same_end, room_or}

-- a token without an argument
pub nothing_spells : (byte : ℕ) (op : Op) → row_in TABLE.rows byte ≡ Some (record { byte = byte; op = op; kind = args.Nothing }) → is_stop op ≡ false → Spells (byte ∷ []) op (pos 0) []
nothing_spells byte op listed on = record {
  token = record { row = record { byte = byte; op = op; kind = args.Nothing }; argument = []; listed = listed; named = refl; spelled = refl; says = record { long = refl; says = refl; whole = refl } };
  front = byte ∷ [];
  split = refl;
  on = on;
}

-- what stands before items: a mark, or nothing
abbrev pub front : Bool → List ℕ
front true = 0x28 ∷ []
front false = []

abbrev pub base : Bool → List Item → List Item
base true stack = Mark ∷ stack
base false stack = stack

-- a node whose text is not at its end yet, among those that its text made
pub record Opened (g : List Node) (m : ℕ) (P : List ℕ → Node → Type 0) (p : Piece) (ob oa : List ℕ) (s : State) (o : List ℕ) : Type 0 where
  pub before : List Node
  pub body : Node
  pub after : List Node
  pub memo : List (ℕ × ℕ)
  pub goes : Goes s p.text (at_end s (before ++ body ∷ after) (Value (length (s.nodes ++ before)) ∷ s.stack) memo)
  pub copies_before : AllCopies (o ++ (ob ++ m ∷ oa)) g before ob
  pub copies_after : AllCopies (o ++ (ob ++ m ∷ oa)) g after oa
  pub holds : P (o ++ (ob ++ m ∷ oa)) body
  pub puts : MemoHas (o ++ (ob ++ m ∷ oa)) memo p.puts

pub record OpenShown (g : List Node) (m : ℕ) (P : List ℕ → Node → Type 0) (p : Piece) (puts vs : List ℕ) : Type 0 where
  pub ob : List ℕ
  pub oa : List ℕ
  pub size : p.made ≡ length (ob ++ m ∷ oa)
  pub same : (k : ℕ) → times k (ob ++ m ∷ oa) ≡ times k vs
  pub few : length p.puts + 1 ≤ length puts + p.made
  pub built : (s : State) (o : List ℕ) → Stands g o s puts → length s.nodes + p.made ≤ s.limit → Opened g m P p ob oa s o
  pub beyond : (s : State) (o : List ℕ) → Stands g o s puts → length s.nodes ≤ s.limit → s.limit < length s.nodes + p.made → Stops s p.text

-- what holds of a node stays true, and a tuple stands for a tuple
pub record Keeps (g : List Node) (m : ℕ) (P : List ℕ → Node → Type 0) : Type 0 where
  pub more : (o p : List ℕ) (x : Node) → P o x → P (o ++ p) x
  pub tuple : (o : List ℕ) (x : Node) → P o x → is_tuple (slice_get g m) ≡ true → is_tuple (Some x) ≡ true

open-tuples : (g : List Node) (m : ℕ) (P : List ℕ → Node → Type 0) (p : Piece) (ob oa : List ℕ) (s : State) (o : List ℕ) → Keeps g m P → (x : Opened g m P p ob oa s o) → Tuples g (ob ++ m ∷ oa) (x.before ++ x.body ∷ x.after)
open-tuples g m P p ob oa s o keeps x =
    tuples-append g ob (m ∷ oa) x.before (x.body ∷ x.after) (copies-length (o ++ (ob ++ m ∷ oa)) g x.before ob x.copies_before) (tuples-copies (o ++ (ob ++ m ∷ oa)) g x.before ob x.copies_before)
    (tuples-append g (m ∷ []) oa (x.body ∷ []) x.after refl (tuples-one g m x.body (keeps.tuple (o ++ (ob ++ m ∷ oa)) x.body x.holds)) (tuples-copies (o ++ (ob ++ m ∷ oa)) g x.after oa x.copies_after))

open-length : (g : List Node) (m : ℕ) (P : List ℕ → Node → Type 0) (p : Piece) (ob oa : List ℕ) (s : State) (o : List ℕ) (x : Opened g m P p ob oa s o) → length (x.before ++ x.body ∷ x.after) ≡ length (ob ++ m ∷ oa)
open-length g m P p ob oa s o x =
    let a = copies-length (o ++ (ob ++ m ∷ oa)) g x.before ob x.copies_before in
    let b = copies-length (o ++ (ob ++ m ∷ oa)) g x.after oa x.copies_after in
    omega (arith, a, b, length-append x.before (x.body ∷ x.after), length-append ob (m ∷ oa))

-- the node is a copy: its text is whole
pub finished : (g : List Node) (m : ℕ) (P : List ℕ → Node → Type 0) (p : Piece) (puts vs : List ℕ) → OpenShown g m P p puts vs → ((o : List ℕ) (x : Node) → P o x → IsCopy o x (slice_get g m)) → Shown g m p puts vs
finished g m P p puts vs a copy = record {
  origins = a.ob ++ m ∷ a.oa;
  size = a.size;
  same = a.same;
  few = omega (arith, a.few);
  built = λ s o st room.
      let x = a.built s o st room in
      let len = copies-length (o ++ (a.ob ++ m ∷ a.oa)) g x.before a.ob x.copies_before in
      let number : ℕ = length (s.nodes ++ x.before) in
      let joined : (o ++ a.ob) ++ m ∷ a.oa ≡ o ++ (a.ob ++ m ∷ a.oa) = append_assoc o a.ob (m ∷ a.oa) in
      record {
        nodes = x.before ++ x.body ∷ x.after;
        number = number;
        memo = x.memo;
        goes = x.goes;
        copies = copies-append (o ++ (a.ob ++ m ∷ a.oa)) g x.before a.ob (x.body ∷ x.after) (m ∷ a.oa) x.copies_before (copy (o ++ (a.ob ++ m ∷ a.oa)) x.body x.holds, x.copies_after);
        found = subst (λ (l : List ℕ). slice_get l number ≡ Some m) joined (get-here (o ++ a.ob) a.oa m number (omega (arith, st.count, len, length-append s.nodes x.before, length-append o a.ob)));
        puts = x.puts;
      };
  beyond = a.beyond;
}

module _ (sr : SpelledIsRead) where
  goes_front : (marked : Bool) (s : State) → Goes s (front marked) (record s { stack = base marked s.stack })
  goes_front true s = goes_token sr s (record s { stack = Mark ∷ s.stack }) (0x28 ∷ []) ops.Mark (pos 0) [] (nothing_spells 0x28 ops.Mark refl refl) (λ at. refl)
  goes_front false s = goes_none s

  -- ---- gets and puts

  get-goes : (k : ℕ) → k < 2 ^ 32 → (s : State) (i : ℕ) → node_at s.memo k ≡ Some i → Goes s (get_text k) (record s { stack = Value i ∷ s.stack })
  get-goes k small s i e = elim (cases_bool (ltb k (2 ^ 8))) [
    | inl t ↦ rw t (goes_token sr s (record s { stack = Value i ∷ s.stack }) (0x68 ∷ k ∷ []) ops.BinGet (pos k) (k ∷ []) (record {
      token = record { row = record { byte = 0x68; op = ops.BinGet; kind = args.Unsigned1 }; argument = k ∷ []; listed = refl; named = refl; spelled = refl; says = record { long = refl; says = ap pos (sym (byte_value k)); whole = refl } };
      front = 0x68 ∷ [];
      split = refl;
      on = refl;
    }) (λ at. ap (get_of at s) e))
    | inr t ↦ rw t (goes_token sr s (record s { stack = Value i ∷ s.stack }) (0x6a ∷ little_bytes 4 k) ops.LongBinGet (pos k) (little_bytes 4 k) (record {
      token = record { row = record { byte = 0x6a; op = ops.LongBinGet; kind = args.Unsigned4 }; argument = little_bytes 4 k; listed = refl; named = refl; spelled = refl; says = record { long = length-bytes_low_first 0 4 k; says = ap pos (sym (read_back 4 k small)); whole = refl } };
      front = 0x6a ∷ [];
      split = refl;
      on = refl;
    }) (λ at. ap (get_of at s) e))
  ]

  put-goes : (k : ℕ) → k < 2 ^ 32 → (s : State) (v : ℕ) (below : List Item) → s.stack ≡ Value v ∷ below → Goes s (put_text k) (record s { memo = put_at s.memo k v })
  put-goes k small s v below e = elim (cases_bool (ltb k (2 ^ 8))) [
    | inl t ↦ rw t (goes_token sr s (record s { memo = put_at s.memo k v }) (0x71 ∷ k ∷ []) ops.BinPut (pos k) (k ∷ []) (record {
      token = record { row = record { byte = 0x71; op = ops.BinPut; kind = args.Unsigned1 }; argument = k ∷ []; listed = refl; named = refl; spelled = refl; says = record { long = refl; says = ap pos (sym (byte_value k)); whole = refl } };
      front = 0x71 ∷ [];
      split = refl;
      on = refl;
    }) (λ at. ap (put_of at k s) e))
    | inr t ↦ rw t (goes_token sr s (record s { memo = put_at s.memo k v }) (0x72 ∷ little_bytes 4 k) ops.LongBinPut (pos k) (little_bytes 4 k) (record {
      token = record { row = record { byte = 0x72; op = ops.LongBinPut; kind = args.Unsigned4 }; argument = little_bytes 4 k; listed = refl; named = refl; spelled = refl; says = record { long = length-bytes_low_first 0 4 k; says = ap pos (sym (read_back 4 k small)); whole = refl } };
      front = 0x72 ∷ [];
      split = refl;
      on = refl;
    }) (λ at. ap (put_of at k s) e))
  ]

  pub get_shown : (g : List Node) (m k : ℕ) (puts : List ℕ) → put_number m puts ≡ Some k → Shown g m (record { text = get_text k; puts = puts; made = 0 }) puts []
  get_shown g m k puts e = record {
    origins = [];
    size = refl;
    same = λ j. refl;
    few = omega arith;
    built = λ s o st room.
        let x = st.memo m k e in
        let less = place-less m k puts e in
        record {
          nodes = [];
          number = x.0;
          memo = s.memo;
          goes = goes_to s _ _ (get_text k) (same_end s s.nodes (s.nodes ++ []) (Value x.0 ∷ s.stack) s.memo (sym (append-nil s.nodes))) (get-goes k (omega (arith, less, st.few, st.count, room, st.limit)) s x.0 x.1);
          copies = tt;
          found = get-more o [] x.0 m x.2;
          puts = memo-more o [] s.memo puts st.memo;
        };
    beyond = λ s o st room over. absurd (omega (arith, room, over));
  }

  pub put_shown : (g : List Node) (m : ℕ) (p : Piece) (puts vs : List ℕ) → length p.puts + 1 ≤ length puts + p.made → Shown g m p puts vs → Shown g m (put_behind true m p) puts vs
  put_shown g m p puts vs fewer a = record {
    origins = a.origins;
    size = a.size;
    same = a.same;
    few = omega (arith, fewer);
    built = λ s o st room.
        let x = a.built s o st room in
        let k : ℕ = length p.puts in
        let s₁ : State = at_end s x.nodes (Value x.number ∷ s.stack) x.memo in
        record {
          nodes = x.nodes;
          number = x.number;
          memo = put_at x.memo k x.number;
          goes = goes_then s s₁ (record s₁ { memo = put_at x.memo k x.number }) p.text (put_text k) x.goes (put-goes k (omega (arith, fewer, st.few, st.count, room, st.limit)) s₁ x.number s.stack refl);
          copies = x.copies;
          found = x.found;
          puts = memo-put (o ++ a.origins) x.memo p.puts x.number m x.puts x.found;
        };
    beyond = λ s o st room over. stops_left s p.text (put_text (length p.puts)) (a.beyond s o st room over);
  }

  -- ---- a node that is made at once

  pub empty_open : (g : List Node) (m : ℕ) (empty : Node) (byte : ℕ) (op : Op) (puts : List ℕ) → row_in TABLE.rows byte ≡ Some (record { byte = byte; op = op; kind = args.Nothing }) → is_stop op ≡ false → leaf_of op (pos 0) [] ≡ Some empty →
      OpenShown g m (λ o x. x ≡ empty) (record { text = byte ∷ []; puts = puts; made = 1 }) puts (m ∷ [])
  empty_open g m empty byte op puts listed on makes =
      let does : (s : State) (at : ℕ) → step op at (pos 0) [] s ≡ make at empty s = λ s at. ap (λ (f : Option Node). leaf_or at s f (act_of op at (pos 0) s)) makes in
      let spells = nothing_spells byte op listed on in
      record {
        ob = [];
        oa = [];
        size = refl;
        same = λ k. refl;
        few = omega arith;
        built = λ s o st room.
            let e : length s.nodes ≡ length (s.nodes ++ []) = ap length (sym (append-nil s.nodes)) in
            record {
              before = [];
              body = empty;
              after = [];
              memo = s.memo;
              goes = goes_to s (made s empty) (at_end s (empty ∷ []) (Value (length (s.nodes ++ [])) ∷ s.stack) s.memo) (byte ∷ []) (ap (λ (k : ℕ). record s { nodes = s.nodes ++ empty ∷ []; stack = Value k ∷ s.stack }) e)
                  (goes_make sr s s empty (byte ∷ []) op (pos 0) [] spells (does s) (omega (arith, room)));
              copies_before = tt;
              copies_after = tt;
              holds = refl;
              puts = memo-more o (m ∷ []) s.memo puts st.memo;
            };
        beyond = λ s o st room over. stops_make sr s s empty (byte ∷ []) op (pos 0) [] spells (does s) (omega (arith, room, over));
      }

  -- ---- a node that is made of the items before it

  abbrev pub Closes : (g : List Node) (P : List ℕ → Node → Type 0) (items : List ℕ) (marked : Bool) (op : Op) → Type 0
  Closes g P items marked op =
      (s : State) (o numbers : List ℕ) (stack : List Item) → Tuples g o s.nodes → length s.nodes ≡ length o → HaveOrigins o numbers items → s.stack ≡ values_onto numbers (base marked stack) →
      (x : Node) × ((more : List ℕ) → P (o ++ more) x) × ((at : ℕ) → step op at (pos 0) [] s ≡ make at x (record s { stack = stack }))

  pub close_open : (g : List Node) (m : ℕ) (P : List ℕ → Node → Type 0) (items : List ℕ) (marked : Bool) (byte : ℕ) (op : Op) (q : Piece) (puts us : List ℕ) →
      row_in TABLE.rows byte ≡ Some (record { byte = byte; op = op; kind = args.Nothing }) → is_stop op ≡ false → AllShown g items q puts us → Closes g P items marked op →
      OpenShown g m P (record { text = front marked ++ (q.text ++ byte ∷ []); puts = q.puts; made = q.made + 1 }) puts (us ++ m ∷ [])
  close_open g m P items marked byte op q puts us listed on a closes =
      let spells = nothing_spells byte op listed on in
      record {
        ob = a.origins;
        oa = [];
        size = omega (arith, a.size, length-append a.origins (m ∷ []));
        same = λ k. let e = a.same k in let f = times-append k a.origins (m ∷ []) in let h = times-append k us (m ∷ []) in omega (arith, e, f, h);
        few = omega (arith, a.few);
        built = λ s o st room.
            let sb : State = record s { stack = base marked s.stack } in
            let stb : Stands g o sb puts = record { count = st.count; tuples = st.tuples; memo = st.memo; few = st.few; limit = st.limit } in
            let x = a.built sb o stb (omega (arith, room)) in
            let len = copies-length (o ++ a.origins) g x.nodes a.origins x.copies in
            let s₁ : State = at_end sb x.nodes (values_onto x.numbers (base marked s.stack)) x.memo in
            let tuples₁ = tuples-append g o a.origins s.nodes x.nodes st.count st.tuples (tuples-copies (o ++ a.origins) g x.nodes a.origins x.copies) in
            let c = closes s₁ (o ++ a.origins) x.numbers s.stack tuples₁ (omega (arith, st.count, len, length-append s.nodes x.nodes, length-append o a.origins)) x.found refl in
            let s₂ : State = record s₁ { stack = s.stack } in
            let joined : (o ++ a.origins) ++ m ∷ [] ≡ o ++ (a.origins ++ m ∷ []) = append_assoc o a.origins (m ∷ []) in
            let last = goes_make sr s₁ s₂ c.0 (byte ∷ []) op (pos 0) [] spells c.2 (omega (arith, room, length-append s.nodes x.nodes, len, a.size)) in
            let P₁ : List ℕ → Type 0 = λ all. AllCopies all g x.nodes a.origins in
            let P₂ : List ℕ → Type 0 = λ all. MemoHas all x.memo q.puts in
            record {
              before = x.nodes;
              body = c.0;
              after = [];
              memo = x.memo;
              goes = goes_to s (made s₂ c.0) (at_end s (x.nodes ++ c.0 ∷ []) (Value (length (s.nodes ++ x.nodes)) ∷ s.stack) x.memo) (front marked ++ (q.text ++ byte ∷ []))
                  (same_end s ((s.nodes ++ x.nodes) ++ c.0 ∷ []) (s.nodes ++ (x.nodes ++ c.0 ∷ [])) (Value (length (s.nodes ++ x.nodes)) ∷ s.stack) x.memo (append_assoc s.nodes x.nodes (c.0 ∷ [])))
                  (goes_then s sb (made s₂ c.0) (front marked) (q.text ++ byte ∷ []) (goes_front marked s) (goes_then sb s₁ (made s₂ c.0) q.text (byte ∷ []) x.goes last));
              copies_before = subst P₁ joined (copies-more (o ++ a.origins) (m ∷ []) g x.nodes a.origins x.copies);
              copies_after = tt;
              holds = subst (λ (l : List ℕ). P l c.0) joined (c.1 (m ∷ []));
              puts = subst P₂ joined (memo-more (o ++ a.origins) (m ∷ []) x.memo q.puts x.puts);
            };
        beyond = λ s o st room over.
            let sb : State = record s { stack = base marked s.stack } in
            let stb : Stands g o sb puts = record { count = st.count; tuples = st.tuples; memo = st.memo; few = st.few; limit = st.limit } in
            stops_right s sb (front marked) (q.text ++ byte ∷ []) (goes_front marked s) (elim (room_or (length s.nodes + q.made) s.limit) [
              | inl fits ↦
                  let x = a.built sb o stb fits in
                  let len = copies-length (o ++ a.origins) g x.nodes a.origins x.copies in
                  let s₁ : State = at_end sb x.nodes (values_onto x.numbers (base marked s.stack)) x.memo in
                  let tuples₁ = tuples-append g o a.origins s.nodes x.nodes st.count st.tuples (tuples-copies (o ++ a.origins) g x.nodes a.origins x.copies) in
                  let c = closes s₁ (o ++ a.origins) x.numbers s.stack tuples₁ (omega (arith, st.count, len, length-append s.nodes x.nodes, length-append o a.origins)) x.found refl in
                  stops_right sb s₁ q.text (byte ∷ []) x.goes (stops_make sr s₁ (record s₁ { stack = s.stack }) c.0 (byte ∷ []) op (pos 0) [] spells c.2 (omega (arith, over, length-append s.nodes x.nodes, len, a.size)))
              | inr none ↦ stops_left sb q.text (byte ∷ []) (a.beyond sb o stb room none)
            ]);
      }

  -- ---- a node that grows by the items behind it

  abbrev pub Grows : (P Q : List ℕ → Node → Type 0) (items : List ℕ) (marked : Bool) (op : Op) → Type 0
  Grows P Q items marked op =
      (s : State) (o numbers : List ℕ) (stack : List Item) (j : ℕ) (x : Node) → P o x → HaveOrigins o numbers items → s.stack ≡ values_onto numbers (base marked (Value j ∷ stack)) → slice_get s.nodes j ≡ Some x →
      (y : Node) × Q o y × ((at : ℕ) → step op at (pos 0) [] s ≡ Ok (record s { nodes = slice_set s.nodes j y; stack = Value j ∷ stack }))

  regroup : {A : Type 0} (xs cs bs ys : List A) (b : A) → (xs ++ (cs ++ b ∷ bs)) ++ ys ≡ (xs ++ cs) ++ b ∷ (bs ++ ys)
  regroup xs cs bs ys b = append_assoc xs (cs ++ b ∷ bs) ys ∙ ap (λ l. xs ++ l) (append_assoc cs (b ∷ bs) ys) ∙ sym (append_assoc xs cs (b ∷ (bs ++ ys)))

  pub grow_open : (g : List Node) (m : ℕ) (P Q : List ℕ → Node → Type 0) (items : List ℕ) (marked : Bool) (byte : ℕ) (op : Op) (p q : Piece) (puts vs us : List ℕ) →
      row_in TABLE.rows byte ≡ Some (record { byte = byte; op = op; kind = args.Nothing }) → is_stop op ≡ false → Keeps g m P → OpenShown g m P p puts vs → AllShown g items q p.puts us → Grows P Q items marked op →
      OpenShown g m Q (record { text = p.text ++ (front marked ++ (q.text ++ byte ∷ [])); puts = q.puts; made = p.made + q.made }) puts (vs ++ us)
  grow_open g m P Q items marked byte op p q puts vs us listed on keeps a b grows =
      let spells = nothing_spells byte op listed on in
      let tail : List ℕ = front marked ++ (q.text ++ byte ∷ []) in
      let O : List ℕ = a.ob ++ m ∷ a.oa in
      record {
        ob = a.ob;
        oa = a.oa ++ b.origins;
        size = omega (arith, a.size, b.size, length-append a.ob (m ∷ a.oa), length-append a.ob (m ∷ (a.oa ++ b.origins)), length-append a.oa b.origins);
        same = λ k.
            let e = a.same k in let f = b.same k in let h = times-append k O b.origins in let i = times-append k vs us in
            let j = ap (times k) (append_assoc a.ob (m ∷ a.oa) b.origins) in
            omega (arith, e, f, h, i, j);
        few = omega (arith, a.few, b.few);
        built = λ s o st room.
            let x = a.built s o st (omega (arith, room)) in
            let j : ℕ = length (s.nodes ++ x.before) in
            let len = open-length g m P p a.ob a.oa s o x in
            let s₁ : State = at_end s (x.before ++ x.body ∷ x.after) (Value j ∷ s.stack) x.memo in
            let sb : State = record s₁ { stack = base marked (Value j ∷ s.stack) } in
            let stb : Stands g (o ++ O) sb p.puts = stands-end g o O s puts p.puts (x.before ++ x.body ∷ x.after) (base marked (Value j ∷ s.stack)) x.memo st len (open-tuples g m P p a.ob a.oa s o keeps x) x.puts (omega (arith, a.few, a.size)) in
            let y = b.built sb (o ++ O) stb (omega (arith, room, length-append s.nodes (x.before ++ x.body ∷ x.after), len, a.size)) in
            let s₂ : State = at_end sb y.nodes (values_onto y.numbers (base marked (Value j ∷ s.stack))) y.memo in
            let split : s₂.nodes ≡ (s.nodes ++ x.before) ++ x.body ∷ (x.after ++ y.nodes) = regroup s.nodes x.before x.after y.nodes x.body in
            let here : slice_get s₂.nodes j ≡ Some x.body = ap (λ (ns : List Node). slice_get ns j) split ∙ get-between (s.nodes ++ x.before) (x.after ++ y.nodes) x.body in
            let z = grows s₂ ((o ++ O) ++ b.origins) y.numbers s.stack j x.body (keeps.more (o ++ O) b.origins x.body x.holds) y.found refl here in
            let set : slice_set s₂.nodes j z.0 ≡ s.nodes ++ (x.before ++ z.0 ∷ (x.after ++ y.nodes)) =
            ap (λ (ns : List Node). slice_set ns j z.0) split ∙ set-between (s.nodes ++ x.before) (x.after ++ y.nodes) x.body z.0 ∙ append_assoc s.nodes x.before (z.0 ∷ (x.after ++ y.nodes)) in
            let joined : (o ++ O) ++ b.origins ≡ o ++ (a.ob ++ m ∷ (a.oa ++ b.origins)) = append_assoc o O b.origins ∙ ap (λ (l : List ℕ). o ++ l) (append_assoc a.ob (m ∷ a.oa) b.origins) in
            let s₃ : State = record s₂ { nodes = slice_set s₂.nodes j z.0; stack = Value j ∷ s.stack } in
            let last = goes_token sr s₂ s₃ (byte ∷ []) op (pos 0) [] spells z.2 in
            let P₁ : List ℕ → Type 0 = λ all. AllCopies all g x.before a.ob in
            let P₂ : List ℕ → Type 0 = λ all. AllCopies all g (x.after ++ y.nodes) (a.oa ++ b.origins) in
            let P₃ : List ℕ → Type 0 = λ all. MemoHas all y.memo q.puts in
            record {
              before = x.before;
              body = z.0;
              after = x.after ++ y.nodes;
              memo = y.memo;
              goes = goes_to s s₃ (at_end s (x.before ++ z.0 ∷ (x.after ++ y.nodes)) (Value j ∷ s.stack) y.memo) (p.text ++ tail)
                  (same_end s (slice_set s₂.nodes j z.0) (s.nodes ++ (x.before ++ z.0 ∷ (x.after ++ y.nodes))) (Value j ∷ s.stack) y.memo set)
                  (goes_then s s₁ s₃ p.text tail x.goes (goes_then s₁ sb s₃ (front marked) (q.text ++ byte ∷ []) (goes_front marked s₁) (goes_then sb s₂ s₃ q.text (byte ∷ []) y.goes last)));
              copies_before = subst P₁ joined (copies-more (o ++ O) b.origins g x.before a.ob x.copies_before);
              copies_after = subst P₂ joined (copies-append ((o ++ O) ++ b.origins) g x.after a.oa y.nodes b.origins (copies-more (o ++ O) b.origins g x.after a.oa x.copies_after) y.copies);
              holds = subst (λ (l : List ℕ). Q l z.0) joined z.1;
              puts = subst P₃ joined y.puts;
            };
        beyond = λ s o st room over. elim (room_or (length s.nodes + p.made) s.limit) [
          | inl fits ↦
              let x = a.built s o st fits in
              let j : ℕ = length (s.nodes ++ x.before) in
              let len = open-length g m P p a.ob a.oa s o x in
              let s₁ : State = at_end s (x.before ++ x.body ∷ x.after) (Value j ∷ s.stack) x.memo in
              let sb : State = record s₁ { stack = base marked (Value j ∷ s.stack) } in
              let stb : Stands g (o ++ O) sb p.puts = stands-end g o O s puts p.puts (x.before ++ x.body ∷ x.after) (base marked (Value j ∷ s.stack)) x.memo st len (open-tuples g m P p a.ob a.oa s o keeps x) x.puts (omega (arith, a.few, a.size)) in
              let stop = b.beyond sb (o ++ O) stb (omega (arith, fits, length-append s.nodes (x.before ++ x.body ∷ x.after), len, a.size)) (omega (arith, over, length-append s.nodes (x.before ++ x.body ∷ x.after), len, a.size)) in
              stops_right s s₁ p.text tail x.goes (stops_right s₁ sb (front marked) (q.text ++ byte ∷ []) (goes_front marked s₁) (stops_left sb q.text (byte ∷ []) stop))
          | inr none ↦ stops_left s p.text tail (a.beyond s o st room none)
        ];
      }
