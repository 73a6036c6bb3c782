-- What clap makes of words that don't begin with a dash.
use Rattle.std.proofs.Common.{◌≡◌, ℕ, ◌++◌, append_assoc, append-nil, Bool, true, false, List, [], ◌∷◌, Option, Some, None, refl, sym, ap, subst, ◌∙◌, codes}
use Rattle.std.specs.Prelude.{find, fold}
use Rattle.std.specs.List.{AllByRecursion}
use Rattle.std.specs.Str.{bytes_eq}
use Rattle.std.proofs.lemmas.Slice.Eq.{bytes_eq-Decides}
use Rattle.clap.specs.Words.{Rule, Shape, Text, subcommand_of, fault_of, Kinds}
use Rattle.clap.specs.Faults.{walk_fault, turn_fault, step_fault}
use Rattle.clap.specs.Lexer.{long_of, short_of}
use Rattle.clap.specs.declared.error.kind.ErrorKind.{ErrorKind}
use Rattle.clap.specs.declared.error.kind.ErrorKind.TheVariants as kinds
use Rattle.clap.specs.Simple.{built, names_of}
use Rattle.clap.specs.Walk.{Held, Names, Walk, walked, nothing_held, to_positional, answers_to, arg_by_index, value, idle}
use Rattle.clap.proofs.OnLiterals.{clap_on_literals}
use Rattle.program_words.specs.Table.{named_in, program_app}
use Rattle.program_words.specs.Words.{is_dashed, named_of}

-- a walk that met a subcommand takes all further words as its
pub walk_on : (c : List Rule) (names : Names) (w : Walk) (p : Text × List Text) (words : List Text) → w.stopped ≡ Some p
    → fold (walked c names) w words ≡ record w { stopped = Some (p.0, p.1 ++ words) }
unfolding walked
walk_on c names w p [] is = ap (λ (s : Option (Text × List Text)). record w { stopped = s }) (is ∙ ap (λ (x : List Text). Some (p.0, x)) (sym (append-nil p.1)))
walk_on c names w p (word ∷ words) is =
    let next : Walk = record w { stopped = Some (p.0, p.1 ++ word ∷ []) } in
    let one : walked c names w word ≡ next = rw is refl in
    ap (λ (x : Walk). fold (walked c names) x words) one
    ∙ walk_on c names next (p.0, p.1 ++ word ∷ []) words refl
    ∙ ap (λ (x : List Text). record w { stopped = Some (p.0, x) }) (append_assoc p.1 (word ∷ []) words)

pub no_fault_on : (s : Shape) (names : Names) (w : Walk) (p : Text × List Text) (words : List Text) → w.stopped ≡ Some p → walk_fault s names w words ≡ []
unfolding walked walk_fault
no_fault_on s names w p [] is = refl
no_fault_on s names w p (word ∷ words) is = rw is (no_fault_on s names (record w { stopped = Some (p.0, p.1 ++ word ∷ []) }) (p.0, p.1 ++ word ∷ []) words refl)

-- ---- words without a dash

abbrev pub Plain : Text → Type 0
Plain word = is_dashed word ≡ false

no_long : (word : Text) → Plain word → long_of word ≡ None
no_long [] h = refl
no_long (b ∷ word) h = rw h refl

no_short : (word : Text) → Plain word → short_of word ≡ None
no_short [] h = refl
no_short (b ∷ word) h = rw h refl

no_dashes : (word : Text) → Plain word → bytes_eq word (45 ∷ 45 ∷ []) ≡ false
no_dashes [] h = refl
no_dashes (b ∷ word) h = rw h refl

-- where nothing waits, a word that is no subcommand goes to the positional
plain_fault : (s : Shape) (names : Names) (held : Held) (position : ℕ) (word : Text) → Plain word → find (answers_to word) names ≡ None
    → turn_fault s names (record { held = held; waiting = idle; position = position; is_trailing = false; stopped = None }) word ≡ step_fault s position held value
plain_fault s names held position word h none = rw (none, no_dashes word h, no_long word h, no_short word h) refl

plain_walked : (c : List Rule) (names : Names) (held : Held) (position : ℕ) (word : Text) → Plain word → find (answers_to word) names ≡ None
    → walked c names (record { held = held; waiting = idle; position = position; is_trailing = false; stopped = None }) word
    ≡ to_positional c (arg_by_index c position) word (record { held = held; waiting = idle; position = position; is_trailing = false; stopped = None }) held
unfolding walked
plain_walked c names held position word h none = rw (none, no_dashes word h, no_long word h, no_short word h) refl

-- ---- all words

-- clap takes the words, with this name and these values
pub record IsTaken (words : List Text) (name : Text) (argument more : Option Text) : Type 0 where
  pub fault : fault_of program_app words ≡ []
  pub entered : named_in (subcommand_of program_app words) ≡ Some (name, argument, more)

-- or refuses them
pub record IsRefused (words : List Text) : Type 0 where
  pub kind : ErrorKind
  pub kinds : Kinds
  pub fault : fault_of program_app words ≡ kind ∷ kinds

pub data Reads (words : List Text) : Type 0 where
  taken : (name : Text) (argument more : Option Text) → IsTaken words name argument more → named_of words ≡ Some (name, argument, more) → Reads words
  refused : IsRefused words → named_of words ≡ None → Reads words

abbrev top : Shape
top = (built program_app).top

abbrev names : Names
names = names_of (built program_app)

-- the walk behind a subcommand and some words
abbrev behind : Text → List Text → Walk
behind name words = record { held = nothing_held; waiting = idle; position = 1; is_trailing = false; stopped = Some (name, words) }

none_refused : IsRefused []
unfolding clap_on_literals
none_refused = record { kind = _; kinds = _; fault = refl }

-- ---- the names, by how many words may stand behind them

data Alone : Text → Type 0 where
  run : Alone (codes "run")
  undolog : Alone (codes "undolog")
  index : Alone (codes "index")
  play : Alone (codes "play")

data Placed : Text → Type 0 where
  history : Placed (codes "history")
  show : Placed (codes "show")
  digest : Placed (codes "digest")
  pack : Placed (codes "pack")
  check : Placed (codes "check")
  gen : Placed (codes "gen")

-- behind a name and some words, no word more is a fault, and each is that name's
no_more : (name : Text) (words more : List Text) → walk_fault top names (behind name words) more ≡ []
no_more name words more = no_fault_on top names (behind name words) (name, words) more refl

all_more : (name : Text) (words more : List Text) → fold (walked top.rules names) (behind name words) more ≡ behind name (words ++ more)
all_more name words more = walk_on top.rules names (behind name words) (name, words) more refl

alone_taken : (name : Text) → Alone name → IsTaken (name ∷ []) name None None
unfolding clap_on_literals
alone_taken name run = record { fault = refl; entered = refl }
alone_taken name undolog = record { fault = refl; entered = refl }
alone_taken name index = record { fault = refl; entered = refl }
alone_taken name play = record { fault = refl; entered = refl }

alone_longer : (name : Text) → Alone name → (word : Text) (more : List Text) → Plain word → IsRefused (name ∷ word ∷ more)
unfolding clap_on_literals
alone_longer name run word more h = record { kind = kinds.UnknownArgument; kinds = []; fault = rw (no_more name (word ∷ []) more, all_more name (word ∷ []) more, no_dashes word h, no_long word h, no_short word h) refl }
alone_longer name undolog word more h = record { kind = kinds.UnknownArgument; kinds = []; fault = rw (no_more name (word ∷ []) more, all_more name (word ∷ []) more, no_dashes word h, no_long word h, no_short word h) refl }
alone_longer name index word more h = record { kind = kinds.UnknownArgument; kinds = []; fault = rw (no_more name (word ∷ []) more, all_more name (word ∷ []) more, no_dashes word h, no_long word h, no_short word h) refl }
alone_longer name play word more h = record { kind = kinds.UnknownArgument; kinds = []; fault = rw (no_more name (word ∷ []) more, all_more name (word ∷ []) more, no_dashes word h, no_long word h, no_short word h) refl }

alone_named : (name : Text) → Alone name → named_of (name ∷ []) ≡ Some (name, None, None)
alone_named name run = refl
alone_named name undolog = refl
alone_named name index = refl
alone_named name play = refl

alone_unnamed : (name : Text) → Alone name → (word : Text) (more : List Text) → named_of (name ∷ word ∷ more) ≡ None
alone_unnamed name run word [] = refl
alone_unnamed name run word (other ∷ []) = refl
alone_unnamed name run word (other ∷ third ∷ more) = refl
alone_unnamed name undolog word [] = refl
alone_unnamed name undolog word (other ∷ []) = refl
alone_unnamed name undolog word (other ∷ third ∷ more) = refl
alone_unnamed name index word [] = refl
alone_unnamed name index word (other ∷ []) = refl
alone_unnamed name index word (other ∷ third ∷ more) = refl
alone_unnamed name play word [] = refl
alone_unnamed name play word (other ∷ []) = refl
alone_unnamed name play word (other ∷ third ∷ more) = refl

alone_reads : (name : Text) → Alone name → (rest : List Text) → AllByRecursion Plain rest → Reads (name ∷ rest)
alone_reads name is [] h = taken name None None (alone_taken name is) (alone_named name is)
alone_reads name is (word ∷ more) h = refused (alone_longer name is word more h.0) (alone_unnamed name is word more)

placed_short : (name : Text) → Placed name → IsRefused (name ∷ [])
unfolding clap_on_literals
placed_short name history = record { kind = _; kinds = _; fault = refl }
placed_short name show = record { kind = _; kinds = _; fault = refl }
placed_short name digest = record { kind = _; kinds = _; fault = refl }
placed_short name pack = record { kind = _; kinds = _; fault = refl }
placed_short name check = record { kind = _; kinds = _; fault = refl }
placed_short name gen = record { kind = _; kinds = _; fault = refl }

placed_taken : (name : Text) → Placed name → (word : Text) → Plain word → IsTaken (name ∷ word ∷ []) name (Some word) None
unfolding clap_on_literals
placed_taken name history word h = let d = no_dashes word h in let l = no_long word h in let s = no_short word h in record { fault = rw (d, l, s) refl; entered = rw (d, l, s) refl }
placed_taken name show word h = let d = no_dashes word h in let l = no_long word h in let s = no_short word h in record { fault = rw (d, l, s) refl; entered = rw (d, l, s) refl }
placed_taken name digest word h = let d = no_dashes word h in let l = no_long word h in let s = no_short word h in record { fault = rw (d, l, s) refl; entered = rw (d, l, s) refl }
placed_taken name pack word h = let d = no_dashes word h in let l = no_long word h in let s = no_short word h in record { fault = rw (d, l, s) refl; entered = rw (d, l, s) refl }
placed_taken name check word h = let d = no_dashes word h in let l = no_long word h in let s = no_short word h in record { fault = rw (d, l, s) refl; entered = rw (d, l, s) refl }
placed_taken name gen word h = let d = no_dashes word h in let l = no_long word h in let s = no_short word h in record { fault = rw (d, l, s) refl; entered = rw (d, l, s) refl }

placed_unnamed : (name : Text) → Placed name → named_of (name ∷ []) ≡ None
placed_unnamed name history = refl
placed_unnamed name show = refl
placed_unnamed name digest = refl
placed_unnamed name pack = refl
placed_unnamed name check = refl
placed_unnamed name gen = refl

placed_named : (name : Text) → Placed name → (word : Text) → named_of (name ∷ word ∷ []) ≡ Some (name, Some word, None)
placed_named name history word = refl
placed_named name show word = refl
placed_named name digest word = refl
placed_named name pack word = refl
placed_named name check word = refl
placed_named name gen word = refl

-- with a second word: `pack` and `serve` take it
longer : (name : Text) → Placed name → bytes_eq (codes "pack") name ≡ false → (word other : Text) (more : List Text) → Plain word → Plain other → IsRefused (name ∷ word ∷ other ∷ more)
unfolding clap_on_literals
longer name history one word other more h k =
    let d = no_dashes word h in let l = no_long word h in let s = no_short word h in let d' = no_dashes other k in let l' = no_long other k in let s' = no_short other k in
    record { kind = kinds.UnknownArgument; kinds = []; fault = rw (no_more name (word ∷ other ∷ []) more, all_more name (word ∷ other ∷ []) more, d, l, s, d', l', s') refl }
longer name show one word other more h k =
    let d = no_dashes word h in let l = no_long word h in let s = no_short word h in let d' = no_dashes other k in let l' = no_long other k in let s' = no_short other k in
    record { kind = kinds.UnknownArgument; kinds = []; fault = rw (no_more name (word ∷ other ∷ []) more, all_more name (word ∷ other ∷ []) more, d, l, s, d', l', s') refl }
longer name digest one word other more h k =
    let d = no_dashes word h in let l = no_long word h in let s = no_short word h in let d' = no_dashes other k in let l' = no_long other k in let s' = no_short other k in
    record { kind = kinds.UnknownArgument; kinds = []; fault = rw (no_more name (word ∷ other ∷ []) more, all_more name (word ∷ other ∷ []) more, d, l, s, d', l', s') refl }
longer name pack one word other more h k = absurd cc
longer name check one word other more h k =
    let d = no_dashes word h in let l = no_long word h in let s = no_short word h in let d' = no_dashes other k in let l' = no_long other k in let s' = no_short other k in
    record { kind = kinds.UnknownArgument; kinds = []; fault = rw (no_more name (word ∷ other ∷ []) more, all_more name (word ∷ other ∷ []) more, d, l, s, d', l', s') refl }
longer name gen one word other more h k =
    let d = no_dashes word h in let l = no_long word h in let s = no_short word h in let d' = no_dashes other k in let l' = no_long other k in let s' = no_short other k in
    record { kind = kinds.UnknownArgument; kinds = []; fault = rw (no_more name (word ∷ other ∷ []) more, all_more name (word ∷ other ∷ []) more, d, l, s, d', l', s') refl }

longer_unnamed : (name : Text) → Placed name → bytes_eq (codes "pack") name ≡ false → (word other : Text) (more : List Text) → named_of (name ∷ word ∷ other ∷ more) ≡ None
longer_unnamed name history one word other [] = refl
longer_unnamed name history one word other (third ∷ more) = refl
longer_unnamed name show one word other [] = refl
longer_unnamed name show one word other (third ∷ more) = refl
longer_unnamed name digest one word other [] = refl
longer_unnamed name digest one word other (third ∷ more) = refl
longer_unnamed name pack one word other more = absurd cc
longer_unnamed name check one word other [] = refl
longer_unnamed name check one word other (third ∷ more) = refl
longer_unnamed name gen one word other [] = refl
longer_unnamed name gen one word other (third ∷ more) = refl

placed_reads : (name : Text) → Placed name → bytes_eq (codes "pack") name ≡ false → (rest : List Text) → AllByRecursion Plain rest → Reads (name ∷ rest)
placed_reads name is one [] h = refused (placed_short name is) (placed_unnamed name is)
placed_reads name is one (word ∷ []) h = taken name (Some word) None (placed_taken name is word h.0) (placed_named name is word)
placed_reads name is one (word ∷ other ∷ more) h = refused (longer name is one word other more h.0 h.1.0) (longer_unnamed name is one word other more)

data Paired : Text → Type 0 where
  packs : Paired (codes "pack")
  serves : Paired (codes "serve")

paired_taken : (name : Text) → Paired name → (word other : Text) → Plain word → Plain other → IsTaken (name ∷ word ∷ other ∷ []) name (Some word) (Some other)
unfolding clap_on_literals
paired_taken name packs word other h k =
    let d = no_dashes word h in let l = no_long word h in let s = no_short word h in let d' = no_dashes other k in let l' = no_long other k in let s' = no_short other k in
    record { fault = rw (d, l, s, d', l', s') refl; entered = rw (d, l, s, d', l', s') refl }
paired_taken name serves word other h k =
    let d = no_dashes word h in let l = no_long word h in let s = no_short word h in let d' = no_dashes other k in let l' = no_long other k in let s' = no_short other k in
    record { fault = rw (d, l, s, d', l', s') refl; entered = rw (d, l, s, d', l', s') refl }

paired_longer : (name : Text) → Paired name → (word other third : Text) (more : List Text) → Plain word → Plain other → Plain third → IsRefused (name ∷ word ∷ other ∷ third ∷ more)
unfolding clap_on_literals
paired_longer name packs word other third more h k j =
    let d = no_dashes word h in let l = no_long word h in let s = no_short word h in let d' = no_dashes other k in let l' = no_long other k in let s' = no_short other k in
    let d'' = no_dashes third j in let l'' = no_long third j in let s'' = no_short third j in
    record { kind = kinds.UnknownArgument; kinds = []; fault = rw (no_more name (word ∷ other ∷ third ∷ []) more, all_more name (word ∷ other ∷ third ∷ []) more, d, l, s, d', l', s', d'', l'', s'') refl }
paired_longer name serves word other third more h k j =
    let d = no_dashes word h in let l = no_long word h in let s = no_short word h in let d' = no_dashes other k in let l' = no_long other k in let s' = no_short other k in
    let d'' = no_dashes third j in let l'' = no_long third j in let s'' = no_short third j in
    record { kind = kinds.UnknownArgument; kinds = []; fault = rw (no_more name (word ∷ other ∷ third ∷ []) more, all_more name (word ∷ other ∷ third ∷ []) more, d, l, s, d', l', s', d'', l'', s'') refl }

pack_reads : (rest : List Text) → AllByRecursion Plain rest → Reads (codes "pack" ∷ rest)
pack_reads [] h = refused (placed_short _ pack) refl
pack_reads (word ∷ []) h = taken (codes "pack") (Some word) None (placed_taken _ pack word h.0) refl
pack_reads (word ∷ other ∷ []) h = taken (codes "pack") (Some word) (Some other) (paired_taken _ packs word other h.0 h.1.0) refl
pack_reads (word ∷ other ∷ third ∷ more) h = refused (paired_longer _ packs word other third more h.0 h.1.0 h.1.1.0) refl

serve_short : IsRefused (codes "serve" ∷ [])
unfolding clap_on_literals
serve_short = record { kind = _; kinds = _; fault = refl }

serve_once : (word : Text) → Plain word → IsRefused (codes "serve" ∷ word ∷ [])
unfolding clap_on_literals
serve_once word h = let d = no_dashes word h in let l = no_long word h in let s = no_short word h in record { kind = kinds.MissingRequiredArgument; kinds = []; fault = rw (d, l, s) refl }

serve_reads : (rest : List Text) → AllByRecursion Plain rest → Reads (codes "serve" ∷ rest)
serve_reads [] h = refused serve_short refl
serve_reads (word ∷ []) h = refused (serve_once word h.0) refl
serve_reads (word ∷ other ∷ []) h = taken (codes "serve") (Some word) (Some other) (paired_taken _ serves word other h.0 h.1.0) refl
serve_reads (word ∷ other ∷ third ∷ more) h = refused (paired_longer _ serves word other third more h.0 h.1.0 h.1.1.0) refl

-- a word that is none of the names
module _ (word : Text) (h : Plain word) (not_run : bytes_eq (codes "run") word ≡ false) (not_undolog : bytes_eq (codes "undolog") word ≡ false) (not_index : bytes_eq (codes "index") word ≡ false) (not_play : bytes_eq (codes "play") word ≡ false) (not_history : bytes_eq (codes "history") word ≡ false)
    (not_show : bytes_eq (codes "show") word ≡ false) (not_digest : bytes_eq (codes "digest") word ≡ false) (not_pack : bytes_eq (codes "pack") word ≡ false)
    (not_check : bytes_eq (codes "check") word ≡ false) (not_serve : bytes_eq (codes "serve") word ≡ false) (not_gen : bytes_eq (codes "gen") word ≡ false) where
  unknown : (rest : List Text) → IsRefused (word ∷ rest)
  unfolding clap_on_literals
  unknown rest =
      let d = no_dashes word h in let l = no_long word h in let s = no_short word h in
      record { kind = kinds.UnknownArgument; kinds = kinds.InvalidSubcommand ∷ []; fault = rw (not_run, not_undolog, not_history, not_show, not_digest, not_pack, not_check, not_index, not_play, not_serve, not_gen, d, l, s) refl }

  unknown_reads : (rest : List Text) → Reads (word ∷ rest)
  unknown_reads [] = refused (unknown []) (rw (not_run, not_undolog, not_index, not_play) refl)
  unknown_reads (argument ∷ []) = refused (unknown (argument ∷ [])) (rw (not_history, not_show, not_digest, not_pack, not_check, not_gen) refl)
  unknown_reads (argument ∷ other ∷ []) = refused (unknown (argument ∷ other ∷ [])) (rw (not_pack, not_serve) refl)
  unknown_reads (argument ∷ other ∷ third ∷ more) = refused (unknown (argument ∷ other ∷ third ∷ more)) refl

-- the word is a name, or it isn't
by_name : (name word : Text) (rest : List Text) → Reads (name ∷ rest) → (bytes_eq name word ≡ false → Reads (word ∷ rest)) → Reads (word ∷ rest)
by_name name word rest is other = by_test (bytes_eq name word) refl
  where
    by_test : (b : Bool) → bytes_eq name word ≡ b → Reads (word ∷ rest)
    by_test true e = subst (λ (w : Text). Reads (w ∷ rest)) ((bytes_eq-Decides name word).0 e) is
    by_test false e = other e

pub reads : (words : List Text) → AllByRecursion Plain words → Reads words
reads [] h = refused none_refused refl
reads (word ∷ rest) h =
    by_name (codes "run") word rest (alone_reads (codes "run") run rest h.1) (λ not_run.
    by_name (codes "undolog") word rest (alone_reads (codes "undolog") undolog rest h.1) (λ not_undolog.
    by_name (codes "index") word rest (alone_reads (codes "index") index rest h.1) (λ not_index.
    by_name (codes "play") word rest (alone_reads (codes "play") play rest h.1) (λ not_play.
    by_name (codes "history") word rest (placed_reads (codes "history") history refl rest h.1) (λ not_history.
    by_name (codes "show") word rest (placed_reads (codes "show") show refl rest h.1) (λ not_show.
    by_name (codes "digest") word rest (placed_reads (codes "digest") digest refl rest h.1) (λ not_digest.
    by_name (codes "pack") word rest (pack_reads rest h.1) (λ not_pack.
    by_name (codes "check") word rest (placed_reads (codes "check") check refl rest h.1) (λ not_check.
    by_name (codes "serve") word rest (serve_reads rest h.1) (λ not_serve.
    by_name (codes "gen") word rest (placed_reads (codes "gen") gen refl rest h.1) (λ not_gen.
    unknown_reads word h.0 not_run not_undolog not_index not_play not_history not_show not_digest not_pack not_check not_serve not_gen rest)))))))))))
