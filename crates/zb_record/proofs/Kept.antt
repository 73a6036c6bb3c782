-- A record whose state is alike can be written and reads back.
use Rattle.std.proofs.Common.{◌≡◌, ℕ, ◌+◌, ◌≤◌, ◌<◌, List, [], ◌∷◌, ◌++◌, length, drop, Result, Ok, Err, ◌⊎◌, inl, inr, refl, arith, sym, ◌∙◌, ap, subst, append_assoc, length-append, ltb}
use Rattle.std.proofs.lemmas.List.{drop_at, append-nil}
use Rattle.std.proofs.lemmas.Bool.{ltb-true, ltb-false}
use Rattle.pickle_ops.specs.Laws.{SpelledIsRead}
use Rattle.pickle_reading.specs.declared.error.PickleError.{PickleError}
use Rattle.pickle_reading.specs.declared.error.PickleError.TheVariants as errors
use Rattle.pickle_reading.specs.declared.reading.TheConstants.{NODE_LIMIT}
use Rattle.pickle_graph.specs.Graph.{Graph, IsGraph}
use Rattle.pickle_graph.specs.declared.node.Node.{Node}
use Rattle.pickle_references.specs.declared.part.Part.{Part}
use Rattle.pickle_round_trip.specs.Laws.{WrittenReadsBack, WrittenReadsAnywhere, ReadsBackBehind, WrittenReadsBehind}
use Rattle.pickle_references.specs.Named.{ToldIsNamed}
use Rattle.pickle_reading.specs.Reading.{graphs, begun, graph_behind}
use Rattle.pickle_references.specs.References.{parts, part_at}
use Rattle.pickle_graph.specs.Same.{IsSame, AreSame}
use Rattle.pickle_writing.specs.Spelling.{Spelled, pickle_text, root_piece}
use Rattle.zb_record.specs.Alike.{AlikeIsKept}
use Rattle.zb_record.specs.Laws.{IsRecord}
use Rattle.zb_record.specs.Records.{one_behind}
use Rattle.zb_record.proofs.Alike.{ToksAlike, BothOr, tok_same, runs_alike}
use Rattle.zb_record.proofs.Leaves.{cases_bool}
use Rattle.zb_record.proofs.Names.{State, Finding}
use Rattle.zb_record.proofs.Pieces.{pickles_alike, nodes_same}
use Rattle.zb_record.proofs.Read.{read-is_record, record-is_read}
use Rattle.zb_record.proofs.Sound.{alike_graph}
use Rattle.zb_record.proofs.Steps.{StatesAlike, FindingsAlike, GraphsEnd, PartsEnd, steps_alike, graphs_end, finds_alike, parts_end}
use Rattle.zb_record.proofs.Tokens.{Tok, texts, run, read_run}
use Rattle.zb_record.proofs.Written.{texts as both_texts, first_is}

-- what a reader begins with behind what was left
abbrev start : List Node → List (ℕ × ℕ) → State
start nodes memo = begun NODE_LIMIT nodes memo

abbrev begin : List Node → List (ℕ × ℕ) → Finding
begin nodes memo = record { state = start nodes memo; oids = [] }

starts : (nodes : List Node) (memo : List (ℕ × ℕ)) → StatesAlike (start nodes memo) (start nodes memo)
starts nodes memo = record { nodes = nodes_same nodes; rest = refl }

toks_same : (ts : List Tok) → ToksAlike ts ts
toks_same [] = tt
toks_same (t ∷ ts) = (tok_same t, toks_same ts)

graphs_run : (nodes : List Node) (memo : List (ℕ × ℕ)) (ts us : List Tok) (at to : ℕ) → ToksAlike ts us → BothOr GraphsEnd (run graphs ts (start nodes memo) at) (run graphs us (start nodes memo) to)
graphs_run nodes memo ts us at to h =
    runs_alike graphs StatesAlike GraphsEnd (λ op a b number one other s s' e k. steps_alike a b op number one other s s' e k) graphs_end ts us (start nodes memo) (start nodes memo) at to h (starts nodes memo)

parts_run : (nodes : List Node) (memo : List (ℕ × ℕ)) (ts us : List Tok) (at to : ℕ) → ToksAlike ts us → BothOr PartsEnd (run parts ts (begin nodes memo) at) (run parts us (begin nodes memo) to)
parts_run nodes memo ts us at to h = runs_alike parts FindingsAlike PartsEnd finds_alike parts_end ts us (begin nodes memo) (begin nodes memo) at to h (starts nodes memo)

both_ok : {A : Type 0} (F : A → A → Type 0) (r q : Result A PickleError) (a : A) → BothOr F r q → r ≡ Ok a → (b : A) × (q ≡ Ok b)
both_ok F (Ok x) (Ok y) a h e = (y, refl)
both_ok F (Ok x) (Err y) a h e = absurd h
both_ok F (Err x) q a h e = cc

-- no answer is a refusal
not_both : {A : Type 0} (r : Result A PickleError) (a : A) (d : PickleError) → r ≡ Ok a → r ≡ Err d → ⊥
not_both r a d e f = let both : Ok a ≡ r = sym e in let all : Ok a ≡ Err d = both ∙ f in cc

room_or : (a b : ℕ) → (a ≤ b) ⊎ (b < a)
room_or a b = elim (cases_bool (ltb b a)) [ inl e ↦ inr (ltb-true b a e) | inr e ↦ inl (ltb-false b a e) ]

-- one answer, told twice
one_graph : (r : Result (Graph × ℕ) PickleError) (a b : Graph × ℕ) → r ≡ Ok a → r ≡ Ok b → a ≡ b
one_graph r a b e f = let both : Ok a ≡ r = sym e in let all : Ok a ≡ Ok b = both ∙ f in cc

-- what is read makes no more nodes than the limit
room_behind : (nodes : List Node) (memo : List (ℕ × ℕ)) (g : Graph) (text : List ℕ) (at : ℕ) (x : Graph × ℕ) → ReadsBackBehind nodes memo g text → graph_behind nodes memo at text ≡ Ok x → (root_piece g.nodes g.root).made ≤ NODE_LIMIT
room_behind nodes memo g text at x law r = elim (room_or (root_piece g.nodes g.root).made NODE_LIMIT) [
  | inl h ↦ h
  | inr h ↦
      let large = law.beyond h at [] in
      absurd (not_both (graph_behind nodes memo at text) x (errors.TooLarge large.0) r (ap (graph_behind nodes memo at) (sym (append-nil text)) ∙ large.1))
]

module _ (sr : SpelledIsRead) where
  at_run : (ts : List Tok) (at : ℕ) (text tail : List ℕ) → text ≡ texts ts ++ 0x2e ∷ [] → graph_behind [] [] at (text ++ tail) ≡ run graphs ts (start [] []) at
  at_run ts at text tail e =
      ap (λ (t : List ℕ). graph_behind [] [] at (t ++ tail)) e ∙ ap (graph_behind [] [] at) (append_assoc (texts ts) (0x2e ∷ []) tail) ∙ read_run graphs sr ts (start [] []) at tail

  -- what the first pickle says does not depend on what follows
  first_run : (ts : List Tok) (text tail : List ℕ) → text ≡ texts ts ++ 0x2e ∷ [] → part_at [] [] 0 (text ++ tail) ≡ run parts ts (begin [] []) 0
  first_run ts text tail e =
      ap (λ (t : List ℕ). part_at [] [] 0 (t ++ tail)) e ∙ ap (part_at [] [] 0) (append_assoc (texts ts) (0x2e ∷ []) tail) ∙ read_run parts sr ts (begin [] []) 0 tail

  part_run : (nodes : List Node) (memo : List (ℕ × ℕ)) (ts : List Tok) (at : ℕ) (text : List ℕ) → text ≡ texts ts ++ 0x2e ∷ [] → part_at nodes memo at text ≡ run parts ts (begin nodes memo) at
  part_run nodes memo ts at text e = ap (part_at nodes memo at) e ∙ read_run parts sr ts (begin nodes memo) at []

  alone_run : (nodes : List Node) (memo : List (ℕ × ℕ)) (ts : List Tok) (at : ℕ) (text : List ℕ) → text ≡ texts ts ++ 0x2e ∷ [] → graph_behind nodes memo at text ≡ run graphs ts (start nodes memo) at
  alone_run nodes memo ts at text e = ap (graph_behind nodes memo at) e ∙ read_run graphs sr ts (start nodes memo) at []

  module _ (back : WrittenReadsBack) where
    -- the text of a class that is read makes no more nodes than the limit
    room : (g : Graph) (text : List ℕ) (ts : List Tok) (x : Graph × ℕ) → IsGraph g.nodes g.root → pickle_text g ≡ Ok text → text ≡ texts ts ++ 0x2e ∷ [] → run graphs ts (start [] []) 0 ≡ Ok x → (root_piece g.nodes g.root).made ≤ NODE_LIMIT
    room g text ts x is w e r = elim (room_or (root_piece g.nodes g.root).made NODE_LIMIT) [
      | inl h ↦ h
      | inr h ↦
          let large = (back g text is w).beyond h in
          absurd (not_both (graph_behind [] [] 0 text) x (errors.TooLarge large.place) (alone_run [] [] ts 0 text e ∙ r) (first_is 0 text ∙ large.refused))
    ]

    module _ (anywhere : WrittenReadsAnywhere) (behind : WrittenReadsBehind) (told : ToldIsNamed) where
      pub alike_kept : AlikeIsKept
      alike_kept class state other text copy class_is state_is alike w r =
          let other_is = alike_graph state other state_is alike in
          let i = read-is_record told text copy.0 copy.1 r in
          let memo : List (ℕ × ℕ) = i.is.memo in
          let nodes : List Node = copy.0.nodes in
          let t = both_texts (pickle_text class) (pickle_text state) text w in
          let c = pickles_alike class class t.first class_is (record { nodes = nodes_same class.nodes; root = refl }) t.class_is in
          let p = pickles_alike state other t.second state_is alike t.state_is in
          let u : List ℕ = texts p.us ++ 0x2e ∷ [] in
          let start_at : ℕ = length t.first in
          -- the class
          let class_read : graph_behind [] [] 0 (t.first ++ t.second) ≡ Ok (copy.0, i.is.behind) = ap (graph_behind [] [] 0) (sym t.both) ∙ i.class_reads in
          let class_run : run graphs c.ts (start [] []) 0 ≡ Ok (copy.0, i.is.behind) = sym (at_run c.ts 0 t.first t.second c.text_is) ∙ class_read in
          let ac = anywhere class t.first class_is t.class_is (room class t.first c.ts (copy.0, i.is.behind) class_is t.class_is c.text_is class_run) in
          let class_same : (copy.0, i.is.behind) ≡ (ac.copy, 0 + length t.first) =
          one_graph (graph_behind [] [] 0 (t.first ++ t.second)) (copy.0, i.is.behind) (ac.copy, 0 + length t.first) class_read (first_is 0 (t.first ++ t.second) ∙ ac.reads 0 t.second) in
          let copied : ac.copy ≡ copy.0 = sym (ap (λ (x : Graph × ℕ). x.0) class_same) in
          let behind_is : i.is.behind ≡ start_at = ap (λ (x : Graph × ℕ). x.1) class_same ∙ (omega arith) in
          let own_class : IsSame class copy.0 = subst (λ (g : Graph). IsSame class g) copied ac.same in
          let few : length nodes ≤ NODE_LIMIT = subst (λ (g : Graph). length g.nodes ≤ NODE_LIMIT) copied ac.few in
          -- the state
          let rest : drop i.is.behind text ≡ t.second = ap (λ (n : ℕ). drop n text) behind_is ∙ ap (drop start_at) t.both ∙ drop_at t.first t.second start_at refl in
          let state_read : graph_behind nodes memo i.is.behind t.second ≡ Ok (copy.1, length text) = ap (graph_behind nodes memo i.is.behind) (sym rest) ∙ i.state_reads in
          let state_part : part_at nodes memo i.is.behind t.second ≡ Ok (record { pickle = copy.1; oids = i.state_oids; behind = length text }, i.is.left) = ap (part_at nodes memo i.is.behind) (sym rest) ∙ i.is.second in
          let own_law = behind class state copy.0 memo t.second own_class few state_is t.state_is in
          let own = own_law.within (room_behind nodes memo state t.second i.is.behind (copy.1, length text) own_law state_read) in
          let state_same : (copy.1, length text) ≡ (own.copy, i.is.behind + length t.second) =
          one_graph (graph_behind nodes memo i.is.behind t.second) (copy.1, length text) (own.copy, i.is.behind + length t.second) state_read (ap (graph_behind nodes memo i.is.behind) (sym (append-nil t.second)) ∙ own.reads i.is.behind []) in
          let copy_is : own.copy ≡ copy.1 = sym (ap (λ (x : Graph × ℕ). x.0) state_same) in
          -- the other state
          let other_run = both_ok GraphsEnd (run graphs p.ts (start nodes memo) i.is.behind) (run graphs p.us (start nodes memo) start_at) (copy.1, length text) (graphs_run nodes memo p.ts p.us i.is.behind start_at p.alike) (sym (alone_run nodes memo p.ts i.is.behind t.second p.text_is) ∙ state_read) in
          let other_part = both_ok PartsEnd (run parts p.ts (begin nodes memo) i.is.behind) (run parts p.us (begin nodes memo) start_at) (record { pickle = copy.1; oids = i.state_oids; behind = length text }, i.is.left) (parts_run nodes memo p.ts p.us i.is.behind start_at p.alike) (sym (part_run nodes memo p.ts i.is.behind t.second p.text_is) ∙ state_part) in
          let found : Part = other_part.0.0 in
          let left : List (ℕ × ℕ) = other_part.0.1 in
          let says : part_at nodes memo start_at u ≡ Ok (found, left) = part_run nodes memo p.us start_at u refl ∙ other_part.1 in
          let other_law = behind class other copy.0 memo u own_class few other_is p.written in
          let ao = other_law.within (room_behind nodes memo other u start_at other_run.0 other_law (alone_run nodes memo p.us start_at u refl ∙ other_run.1)) in
          let other_told = told nodes memo start_at u found left says in
          let other_read : graph_behind nodes memo start_at u ≡ Ok (ao.copy, start_at + length u) = ap (graph_behind nodes memo start_at) (sym (append-nil u)) ∙ ao.reads start_at [] in
          let other_same : (found.pickle, found.behind) ≡ (ao.copy, start_at + length u) = one_graph (graph_behind nodes memo start_at u) (found.pickle, found.behind) (ao.copy, start_at + length u) other_told.reads other_read in
          let other_is_copy : ao.copy ≡ found.pickle = sym (ap (λ (x : Graph × ℕ). x.0) other_same) in
          let whole : found.behind ≡ length (t.first ++ u) = ap (λ (x : Graph × ℕ). x.1) other_same ∙ sym (length-append t.first u) in
          let other_rest : drop start_at (t.first ++ u) ≡ u = drop_at t.first u start_at refl in
          let first_part : part_at [] [] 0 (t.first ++ t.second) ≡ Ok (record { pickle = copy.0; oids = i.class_oids; behind = i.is.behind }, memo) = ap (part_at [] [] 0) (sym t.both) ∙ i.is.first in
          let is : IsRecord (t.first ++ u) copy.0 found.pickle i.class_oids found.oids = record {
            behind = start_at;
            memo = memo;
            left = left;
            first = first_run c.ts t.first u c.text_is ∙ sym (first_run c.ts t.first t.second c.text_is) ∙ first_part ∙ ap (λ (n : ℕ). Ok (record { pickle = copy.0; oids = i.class_oids; behind = n }, memo)) behind_is;
            second = ap (part_at nodes memo start_at) other_rest ∙ says ∙ ap (λ (n : ℕ). Ok (record { pickle = found.pickle; oids = found.oids; behind = n }, left)) whole;
            class_is = i.is.class_is;
          } in
          record {
            text = t.first ++ u;
            written = ap (λ (a : Spelled). one_behind a (pickle_text other)) t.class_is ∙ ap (one_behind (Ok t.first)) p.written;
            other_copy = found.pickle;
            reads = (record-is_read (t.first ++ u) copy.0 found.pickle i.class_oids found.oids is).0;
            same = subst (λ (g : Graph). AreSame state g) copy_is own.same;
            other_same = subst (λ (g : Graph). AreSame other g) other_is_copy ao.same;
          }
