-- The two laws of a line: what is read is spelled so, and what is spelled so is read.
use Rattle.std.proofs.Common.{◌≡◌, ℕ, ◌+◌, ◌^◌, ◌<◌, Bool, true, false, cond, List, [], ◌∷◌, ◌++◌, length, Option, Some, refl, sym, ap, subst, ◌∙◌, arith, inl, inr}
use Rattle.std.specs.Prelude.{codes, decimal}
use Rattle.std.specs.List.{AllByRecursion}
use Rattle.std.specs.Str.{bytes_eq}
use Rattle.std.proofs.lemmas.Option.{same_Some, cond_some}
use Rattle.std.proofs.lemmas.Fmt.{decimal_is_IsNumeral}
use Rattle.std.proofs.lemmas.Slice.Eq.{bytes_eq-Decides}
use Rattle.zb_ids.specs.Hex.{hex_text, hex_number, number_at}
use Rattle.zb_ids.specs.HexLaws.{from_bind, number_takes, number_again}
use Rattle.literal_reading.specs.Literals.{IsLiteral}
use Rattle.pickle_graph.specs.Graph.{Graph}
use Rattle.pickle_writing.specs.declared.depth.TheConstants.{WALK_LIMIT}
use Rattle.zb_literals.specs.Texts.{quoted_text}
use Rattle.zb_script.specs.declared.line.Line.{Line}
use Rattle.zb_script.specs.declared.line.Line.TheVariants as lines
use Rattle.zb_script.specs.declared.line.Turn.{Turn}
use Rattle.zb_script.specs.Names.{is_name, IsName}
use Rattle.zb_script.specs.Lines.{Lacks}
use Rattle.zb_script.specs.Spelling.{IsNumbered, IsStore, IsPut, IsPaired, IsPackText, collecting_text, IsVote, IsUndo, IsRollback, IsLineText, IsTurnText, AreTurnTexts, IsLine, IsTurn, opening_text, tids_text}
use Rattle.zb_script.specs.Reading.{cut_at, behind_word, literal_cut, field_at, payload_at, short_at, short_field_at, sixteen_at, tids_at, record_at, small_at, numbered_at, store_at, put_at, collecting_at, packed_at, paired_at, vote_at, undo_at, rollback_at, words_at, short_line_at, line_at, name_at, turn_at}
use Rattle.zb_script.proofs.Froms.{From, From-append, From-weaker, from_test, hex_from, number_from, name_from, Lacks-from, chosen}
use Rattle.zb_script.proofs.GapLaws.{IsWord, quoted_word, literal_word, word_cut, cut_is, all_digits_high}
use Rattle.zb_script.proofs.PayloadLaws.{payload_takes, payload_again}
use Rattle.zb_script.proofs.KeyLaws.{small_takes, small_again}
use Rattle.zb_script.proofs.Begun.{begun_takes, word_again, numbered_from, paired_from, pack_from, field_from}
use Rattle.zb_script.proofs.TreeLaws.{tree_takes, tree_again, tree_from, tree_is}
use Rattle.zb_script.proofs.FieldLaws.{Exact, cut_takes, cut_again, field_takes, field_again, sixteen_takes, sixteen_again, tids_take, tids_again, short_takes, short_again, short_field_takes, short_field_again, record_takes, record_again, record_some}

-- ---- what is read is spelled so

numbered_takes : (word bytes : List ℕ) (line : ℕ → Line) → ((n : ℕ) (text : List ℕ) → IsNumbered text word n → IsLineText text (line n)) → (l : Line) → numbered_at line bytes ≡ Some l → IsLineText (word ++ bytes) l
unfolding numbered_at
numbered_takes word bytes line spells l e =
    from_bind (number_at bytes) _ l e (λ number at is.
    let t = number_takes bytes number at in
    subst (IsLineText (word ++ bytes)) (same_Some (line number) l is) (spells number (word ++ bytes) (record { small = t.0; is = ap (λ (x : List ℕ). word ++ x) t.1 })))

store_takes : (bytes : List ℕ) (l : Line) → store_at bytes ≡ Some l → IsLineText (codes "store " ++ bytes) l
unfolding store_at
store_takes bytes l e =
    from_bind (field_at bytes) _ l e (λ oid at_oid e1.
    from_bind (field_at oid.1) _ l e1 (λ base at_base e2.
    from_bind (payload_at base.1) _ l e2 (λ stored at_stored is.
    let p = field_takes bytes oid at_oid in
    let q = field_takes oid.1 base at_base in
    let r = payload_takes base.1 stored at_stored in
    let whole : bytes ≡ hex_number oid.0 ++ 32 ∷ (hex_number base.0 ++ 32 ∷ hex_text stored) = cc (p.is, q.is, r.spelled) in
    let spelled : IsStore (codes "store " ++ bytes) oid.0 base.0 stored = record { oid_small = p.small; base_small = q.small; payload = r.is; fits = r.fits; is = ap (λ (x : List ℕ). codes "store " ++ x) whole } in
    subst (IsLineText (codes "store " ++ bytes)) (same_Some (lines.Store oid.0 base.0 stored) l is) spelled)))

put_takes : Exact → (bytes : List ℕ) (l : Line) → put_at bytes ≡ Some l → IsLineText (codes "put " ++ bytes) l
unfolding put_at
put_takes exact bytes l e =
    from_bind (field_at bytes) _ l e (λ oid at_oid e1.
    from_bind (literal_cut oid.1) _ l e1 (λ texts at_texts e2.
    from_bind (record_at texts.0 texts.1) _ l e2 (λ stored at_stored is.
    let p = field_takes bytes oid at_oid in
    let whole : bytes ≡ hex_number oid.0 ++ 32 ∷ (texts.0 ++ 32 ∷ texts.1) = cc (p.is, cut_is oid.1 texts at_texts) in
    let spelled : IsPut (codes "put " ++ bytes) oid.0 stored = record { oid_small = p.small; class_text = texts.0; state_text = texts.1; stored = record_takes exact texts.0 texts.1 stored at_stored; is = ap (λ (x : List ℕ). codes "put " ++ x) whole } in
    subst (IsLineText (codes "put " ++ bytes)) (same_Some (lines.Put oid.0 stored) l is) spelled)))

paired_takes : (word bytes : List ℕ) (line : ℕ → ℕ → Line) → ((m n : ℕ) (text : List ℕ) → IsPaired text word m n → IsLineText text (line m n)) → (l : Line) → paired_at line bytes ≡ Some l → IsLineText (word ++ bytes) l
unfolding paired_at
paired_takes word bytes line spells l e =
    from_bind (field_at bytes) _ l e (λ first at_first e1.
    from_bind (number_at first.1) _ l e1 (λ second at_second is.
    let p = field_takes bytes first at_first in
    let q = number_takes first.1 second at_second in
    let whole : bytes ≡ hex_number first.0 ++ 32 ∷ hex_number second = cc (p.is, q.1) in
    subst (IsLineText (word ++ bytes)) (same_Some (line first.0 second) l is)
    (spells first.0 second (word ++ bytes) (record { first_small = p.small; second_small = q.0; is = ap (λ (x : List ℕ). word ++ x) whole }))))

collecting_takes : (rest : List ℕ) (collect : Bool) → collecting_at rest ≡ Some collect → rest ≡ collecting_text collect
collecting_takes rest collect e =
    elim (chosen (bytes_eq rest []) (Some true) _ (Some collect) e) [
      | inl it ↦ (bytes_eq-Decides rest []).0 it.0 ∙ ap collecting_text (same_Some true collect it.1)
      | inr other ↦
          elim (chosen (bytes_eq rest (codes " nogc")) (Some false) _ (Some collect) other.1) [
            | inl it ↦ (bytes_eq-Decides rest (codes " nogc")).0 it.0 ∙ ap collecting_text (same_Some false collect it.1)
            | inr none ↦ absurd cc
          ]
    ]

collecting_again : (collect : Bool) → collecting_at (collecting_text collect) ≡ Some collect
collecting_again true = refl
collecting_again false = refl

packed_takes : (word bytes : List ℕ) (line : ℕ → Bool → Line) → ((n : ℕ) (b : Bool) (text : List ℕ) → IsPackText text word n b → IsLineText text (line n b)) → (l : Line) → packed_at line bytes ≡ Some l → IsLineText (word ++ bytes) l
unfolding packed_at
packed_takes word bytes line spells l e =
    from_bind (sixteen_at bytes) _ l e (λ tid at_tid e1.
    from_bind (collecting_at tid.1) _ l e1 (λ collect at_collect is.
    let p = sixteen_takes bytes tid at_tid in
    let whole : bytes ≡ hex_number tid.0 ++ collecting_text collect = p.is ∙ ap (λ (x : List ℕ). hex_number tid.0 ++ x) (collecting_takes tid.1 collect at_collect) in
    subst (IsLineText (word ++ bytes)) (same_Some (line tid.0 collect) l is)
    (spells tid.0 collect (word ++ bytes) (record { small = p.small; is = ap (λ (x : List ℕ). word ++ x) whole }))))

vote_takes : Exact → (bytes : List ℕ) (l : Line) → vote_at bytes ≡ Some l → IsLineText (codes "vote " ++ bytes) l
unfolding vote_at
vote_takes exact bytes l e =
    from_bind (short_field_at bytes) _ l e (λ user at_user e1.
    from_bind (short_at user.1) _ l e1 (λ description at_description is.
    let p = short_field_takes exact bytes user at_user in
    let q = short_takes exact user.1 description at_description in
    let whole : bytes ≡ quoted_text user.0 ++ 32 ∷ quoted_text description = p.is ∙ ap (λ (x : List ℕ). quoted_text user.0 ++ 32 ∷ x) q.is in
    let spelled : IsVote (codes "vote " ++ bytes) user.0 description = record { user_short = p.short; description_short = q.short; is = ap (λ (x : List ℕ). codes "vote " ++ x) whole } in
    subst (IsLineText (codes "vote " ++ bytes)) (same_Some (lines.Vote user.0 description) l is) spelled))

undo_takes : Exact → (bytes : List ℕ) (l : Line) → undo_at bytes ≡ Some l → IsLineText (codes "undo " ++ bytes) l
unfolding undo_at
undo_takes exact bytes l e =
    from_bind (short_field_at bytes) _ l e (λ user at_user e1.
    from_bind (short_field_at user.1) _ l e1 (λ description at_description e2.
    from_bind (tids_at description.1) _ l e2 (λ tids at_tids is.
    let p = short_field_takes exact bytes user at_user in
    let q = short_field_takes exact user.1 description at_description in
    let r = tids_take description.1 tids at_tids in
    let whole : bytes ≡ quoted_text user.0 ++ 32 ∷ (quoted_text description.0 ++ tids_text tids) =
    p.is ∙ ap (λ (x : List ℕ). quoted_text user.0 ++ 32 ∷ x) (q.is ∙ ap (λ (x : List ℕ). quoted_text description.0 ++ x) r.is) in
    let spelled : IsUndo (codes "undo " ++ bytes) user.0 description.0 tids = record { user_short = p.short; description_short = q.short; undone = r.are; is = ap (λ (x : List ℕ). codes "undo " ++ x) whole } in
    subst (IsLineText (codes "undo " ++ bytes)) (same_Some (lines.Undo user.0 description.0 tids) l is) spelled)))

rollback_takes : Exact → (bytes : List ℕ) (l : Line) → rollback_at bytes ≡ Some l → IsLineText (codes "rollback " ++ bytes) l
unfolding rollback_at
rollback_takes exact bytes l e =
    from_bind (small_at bytes) _ l e (λ number at is.
    let t = small_takes exact bytes number at in
    let spelled : IsRollback (codes "rollback " ++ bytes) number = record { small = t.small; is = ap (λ (x : List ℕ). codes "rollback " ++ x) t.is } in
    subst (IsLineText (codes "rollback " ++ bytes)) (same_Some (lines.Rollback number) l is) spelled)

word_takes : (bytes word : List ℕ) (l t : Line) (other : Option Line) → cond (bytes_eq bytes word) (Some l) other ≡ Some t → (bytes ≡ word → IsLineText bytes l) → (other ≡ Some t → IsLineText bytes t) → IsLineText bytes t
word_takes bytes word l t other e spells then =
    elim (chosen (bytes_eq bytes word) (Some l) other (Some t) e) [
      | inl it ↦ subst (IsLineText bytes) (same_Some l t it.1) (spells ((bytes_eq-Decides bytes word).0 it.0))
      | inr not_it ↦ then not_it.1
    ]

words_take : Exact → (bytes : List ℕ) (l : Line) → words_at bytes ≡ Some l → IsLineText bytes l
unfolding words_at
words_take exact bytes l e =
    word_takes bytes (codes "open local") (lines.Open false) l _ e (λ is. is) (λ e.
    word_takes bytes (codes "open remote") (lines.Open true) l _ e (λ is. is) (λ e.
    word_takes bytes (codes "begin") lines.Begin l _ e (λ is. is) (λ e.
    word_takes bytes (codes "new") lines.New l _ e (λ is. is) (λ e.
    word_takes bytes (codes "finish") lines.Finish l _ e (λ is. is) (λ e.
    word_takes bytes (codes "abort") lines.Abort l _ e (λ is. is) (λ e.
    word_takes bytes (codes "undolog") lines.UndoLog l _ e (λ is. is) (λ e.
    word_takes bytes (codes "close") lines.Close l _ e (λ is. is) (λ e.
    word_takes bytes (codes "savepoint") lines.Savepoint l _ e (λ is. is) (λ e.
    word_takes bytes (codes "packturn") lines.PackTurn l _ e (λ is. is) (λ e.
    word_takes bytes (codes "deliver") lines.Deliver l _ e (λ is. is) (λ e. tree_takes exact bytes l e)))))))))))

short_line_takes : Exact → (bytes : List ℕ) (l : Line) → short_line_at bytes ≡ Some l → IsLineText bytes l
unfolding short_line_at
short_line_takes exact bytes l e =
    begun_takes (codes "load ") bytes (numbered_at lines.Load) _ l e (λ rest. numbered_takes (codes "load ") rest lines.Load (λ n text is. is) l) (λ e.
    begun_takes (codes "get ") bytes (numbered_at lines.Get) _ l e (λ rest. numbered_takes (codes "get ") rest lines.Get (λ n text is. is) l) (λ e.
    begun_takes (codes "history ") bytes (numbered_at lines.History) _ l e (λ rest. numbered_takes (codes "history ") rest lines.History (λ n text is. is) l) (λ e.
    begun_takes (codes "pack ") bytes (packed_at lines.Pack) _ l e (λ rest. packed_takes (codes "pack ") rest lines.Pack (λ n b text is. is) l) (λ e.
    begun_takes (codes "packbegin ") bytes (packed_at lines.PackBegin) _ l e (λ rest. packed_takes (codes "packbegin ") rest lines.PackBegin (λ n b text is. is) l) (λ e.
    begun_takes (codes "rollback ") bytes rollback_at _ l e (λ rest. rollback_takes exact rest l) (λ e.
    words_take exact bytes l e))))))

pub line_takes : Exact → (bytes : List ℕ) (l : Line) → line_at bytes ≡ Some l → IsLineText bytes l
unfolding line_at
line_takes exact bytes l e =
    begun_takes (codes "store ") bytes store_at _ l e (λ rest. store_takes rest l) (λ e.
    begun_takes (codes "put ") bytes put_at _ l e (λ rest. put_takes exact rest l) (λ e.
    begun_takes (codes "check ") bytes (paired_at lines.Check) _ l e (λ rest. paired_takes (codes "check ") rest lines.Check (λ m n text is. is) l) (λ e.
    begun_takes (codes "delete ") bytes (paired_at lines.Delete) _ l e (λ rest. paired_takes (codes "delete ") rest lines.Delete (λ m n text is. is) l) (λ e.
    begun_takes (codes "vote ") bytes vote_at _ l e (λ rest. vote_takes exact rest l) (λ e.
    begun_takes (codes "undo ") bytes undo_at _ l e (λ rest. undo_takes exact rest l) (λ e.
    short_line_takes exact bytes l e))))))

-- ---- what is spelled so is read

abbrev IsRead : List ℕ → Line → Type 0
IsRead text l = line_at text ≡ Some l

load_again : (oid : ℕ) → oid < 2 ^ 64 → IsRead (codes "load " ++ hex_number oid) (lines.Load oid)
unfolding line_at behind_word short_line_at numbered_at
load_again oid h = rw (number_again oid h) refl

get_again : (oid : ℕ) → oid < 2 ^ 64 → IsRead (codes "get " ++ hex_number oid) (lines.Get oid)
unfolding line_at behind_word short_line_at numbered_at
get_again oid h = rw (number_again oid h) refl

history_again : (oid : ℕ) → oid < 2 ^ 64 → IsRead (codes "history " ++ hex_number oid) (lines.History oid)
unfolding line_at behind_word short_line_at numbered_at
history_again oid h = rw (number_again oid h) refl

pack_again : (tid : ℕ) (collect : Bool) → tid < 2 ^ 64 → IsRead (codes "pack " ++ (hex_number tid ++ collecting_text collect)) (lines.Pack tid collect)
unfolding line_at behind_word short_line_at packed_at
pack_again tid collect h = rw (sixteen_again tid (collecting_text collect) h, collecting_again collect) refl

pack_begin_again : (tid : ℕ) (collect : Bool) → tid < 2 ^ 64 → IsRead (codes "packbegin " ++ (hex_number tid ++ collecting_text collect)) (lines.PackBegin tid collect)
unfolding line_at behind_word short_line_at packed_at
pack_begin_again tid collect h = rw (sixteen_again tid (collecting_text collect) h, collecting_again collect) refl

store_again : (text : List ℕ) (oid base : ℕ) (bytes : List ℕ) (h : IsStore text oid base bytes) → IsRead (codes "store " ++ (hex_number oid ++ 32 ∷ (hex_number base ++ 32 ∷ hex_text bytes))) (lines.Store oid base bytes)
unfolding line_at behind_word store_at
store_again text oid base bytes h =
    rw (field_again oid (hex_number base ++ 32 ∷ hex_text bytes) h.oid_small, field_again base (hex_text bytes) h.base_small, payload_again bytes h.payload h.fits) refl

class_word : (text : List ℕ) (graph : Graph) → IsLiteral text graph → IsWord text
class_word text graph h = subst IsWord (sym h.text) (literal_word h.tree (WALK_LIMIT + 1) h.each)

put_again : Exact → (text : List ℕ) (oid : ℕ) (bytes : List ℕ) (h : IsPut text oid bytes) → IsRead (codes "put " ++ (hex_number oid ++ 32 ∷ (h.class_text ++ 32 ∷ h.state_text))) (lines.Put oid bytes)
unfolding line_at behind_word put_at
put_again exact text oid bytes h =
    rw (field_again oid (h.class_text ++ 32 ∷ h.state_text) h.oid_small, word_cut h.class_text h.state_text (class_word h.class_text h.stored.class h.stored.class_spelled), record_again exact h.class_text h.state_text bytes h.stored) refl

check_again : (oid serial : ℕ) → oid < 2 ^ 64 → serial < 2 ^ 64 → IsRead (codes "check " ++ (hex_number oid ++ 32 ∷ hex_number serial)) (lines.Check oid serial)
unfolding line_at behind_word paired_at
check_again oid serial h k = rw (field_again oid (hex_number serial) h, number_again serial k) refl

delete_again : (oid base : ℕ) → oid < 2 ^ 64 → base < 2 ^ 64 → IsRead (codes "delete " ++ (hex_number oid ++ 32 ∷ hex_number base)) (lines.Delete oid base)
unfolding line_at behind_word paired_at
delete_again oid base h k = rw (field_again oid (hex_number base) h, number_again base k) refl

vote_again : Exact → (text user description : List ℕ) → IsVote text user description → IsRead (codes "vote " ++ (quoted_text user ++ 32 ∷ quoted_text description)) (lines.Vote user description)
unfolding line_at behind_word vote_at
vote_again exact text user description h = rw (short_field_again exact user (quoted_text description) h.user_short, short_again exact description h.description_short) refl

undo_again : Exact → (text user description tids : List ℕ) → IsUndo text user description tids → IsRead (codes "undo " ++ (quoted_text user ++ 32 ∷ (quoted_text description ++ tids_text tids))) (lines.Undo user description tids)
unfolding line_at behind_word undo_at
undo_again exact text user description [] h = absurd (omega (arith, h.undone.some))
undo_again exact text user description (tid ∷ tids) h =
    rw (short_field_again exact user (quoted_text description ++ 32 ∷ (hex_number tid ++ tids_text tids)) h.user_short, short_field_again exact description (hex_number tid ++ tids_text tids) h.description_short, tids_again tid tids h.undone.fall) refl

open_again : (remote : Bool) → IsRead (opening_text remote) (lines.Open remote)
unfolding line_at behind_word short_line_at words_at
open_again false = refl
open_again true = refl

begin_again : IsRead (codes "begin") lines.Begin
unfolding line_at behind_word short_line_at words_at
begin_again = refl

new_again : IsRead (codes "new") lines.New
unfolding line_at behind_word short_line_at words_at
new_again = refl

finish_again : IsRead (codes "finish") lines.Finish
unfolding line_at behind_word short_line_at words_at
finish_again = refl

abort_again : IsRead (codes "abort") lines.Abort
unfolding line_at behind_word short_line_at words_at
abort_again = refl

undolog_again : IsRead (codes "undolog") lines.UndoLog
unfolding line_at behind_word short_line_at words_at
undolog_again = refl

close_again : IsRead (codes "close") lines.Close
unfolding line_at behind_word short_line_at words_at
close_again = refl

savepoint_again : IsRead (codes "savepoint") lines.Savepoint
unfolding line_at behind_word short_line_at words_at
savepoint_again = refl

pack_turn_again : IsRead (codes "packturn") lines.PackTurn
unfolding line_at behind_word short_line_at words_at
pack_turn_again = refl

deliver_again : IsRead (codes "deliver") lines.Deliver
unfolding line_at behind_word short_line_at words_at
deliver_again = refl

rollback_again : Exact → (number : ℕ) → number < 2 ^ 32 → IsRead (codes "rollback " ++ decimal number) (lines.Rollback number)
unfolding line_at behind_word short_line_at rollback_at
rollback_again exact number h = rw (small_again exact number h) refl

pub line_again : Exact → (text : List ℕ) (l : Line) → IsLineText text l → line_at text ≡ Some l
line_again exact text (lines.Open remote) h = word_again (lines.Open remote) text _ h (open_again remote)
line_again exact text lines.Begin h = word_again lines.Begin text _ h begin_again
line_again exact text (lines.Load oid) h = word_again (lines.Load oid) text _ h.is (load_again oid h.small)
line_again exact text (lines.Get oid) h = word_again (lines.Get oid) text _ h.is (get_again oid h.small)
line_again exact text (lines.Store oid base bytes) h = word_again (lines.Store oid base bytes) text _ h.is (store_again text oid base bytes h)
line_again exact text (lines.Put oid bytes) h = word_again (lines.Put oid bytes) text _ h.is (put_again exact text oid bytes h)
line_again exact text (lines.Check oid serial) h = word_again (lines.Check oid serial) text _ h.is (check_again oid serial h.first_small h.second_small)
line_again exact text (lines.Delete oid base) h = word_again (lines.Delete oid base) text _ h.is (delete_again oid base h.first_small h.second_small)
line_again exact text (lines.Tree root call) h = tree_again exact text root call h
line_again exact text lines.Savepoint h = word_again lines.Savepoint text _ h savepoint_again
line_again exact text (lines.Rollback number) h = word_again (lines.Rollback number) text _ h.is (rollback_again exact number h.small)
line_again exact text lines.New h = word_again lines.New text _ h new_again
line_again exact text (lines.Vote user description) h = word_again (lines.Vote user description) text _ h.is (vote_again exact text user description h)
line_again exact text (lines.Undo user description tids) h = word_again (lines.Undo user description tids) text _ h.is (undo_again exact text user description tids h)
line_again exact text lines.Finish h = word_again lines.Finish text _ h finish_again
line_again exact text lines.Abort h = word_again lines.Abort text _ h abort_again
line_again exact text lines.Deliver h = word_again lines.Deliver text _ h deliver_again
line_again exact text (lines.History oid) h = word_again (lines.History oid) text _ h.is (history_again oid h.small)
line_again exact text lines.UndoLog h = word_again lines.UndoLog text _ h undolog_again
line_again exact text (lines.Pack tid collect) h = word_again (lines.Pack tid collect) text _ h.is (pack_again tid collect h.small)
line_again exact text (lines.PackBegin tid collect) h = word_again (lines.PackBegin tid collect) text _ h.is (pack_begin_again tid collect h.small)
line_again exact text lines.PackTurn h = word_again lines.PackTurn text _ h pack_turn_again
line_again exact text lines.Close h = word_again lines.Close text _ h close_again

-- ---- whole lines

pub turn_takes : Exact → (bytes : List ℕ) (t : Turn) → turn_at bytes ≡ Some t → IsTurnText bytes t
unfolding turn_at name_at
turn_takes exact bytes t e =
    from_bind (cut_at 32 bytes) _ t e (λ word at_word e1.
    from_bind (name_at word.0) _ t e1 (λ client at_client e2.
    from_bind (line_at word.1) _ t e2 (λ line at_line is.
    let cut = cut_takes 32 bytes word.0 word.1 at_word in
    let name = cond_some (is_name word.0) word.0 client at_client in
    let named : IsName client = rw (← name.1) (name.0) in
    let whole : bytes ≡ client ++ 32 ∷ word.1 = cc (cut, name.1) in
    subst (IsTurnText bytes) (same_Some (record { client = client; line = line }) t is)
    (record { named = named; line_text = word.1; spelled = line_takes exact word.1 line at_line; is = whole }))))

pub turn_again : Exact → (text : List ℕ) (t : Turn) → IsTurnText text t → turn_at text ≡ Some t
unfolding turn_at name_at
turn_again exact text t h =
    let read : turn_at (t.client ++ 32 ∷ h.line_text) ≡ Some t = rw (cut_again 32 t.client h.line_text (From-weaker 48 33 _ (omega arith) (name_from t.client h.named)), h.named, line_again exact h.line_text t.line h.spelled) refl in
    ap turn_at h.is ∙ read

-- ---- no line has a newline

tids_from : (tids : List ℕ) → From 32 (tids_text tids)
tids_from [] = tt
tids_from (tid ∷ tids) = (omega arith, From-append 32 (hex_number tid) (tids_text tids) (From-weaker 48 32 _ (omega arith) (number_from tid)) (tids_from tids))

both_from : (a b : List ℕ) → IsWord a → From 32 b → From 32 (a ++ 32 ∷ b)
both_from a b word high = From-append 32 a (32 ∷ b) word.high (omega arith, high)

texts_from : (user description : List ℕ) → From 32 (quoted_text user ++ 32 ∷ quoted_text description)
texts_from user description = let d = quoted_word description in both_from (quoted_text user) (quoted_text description) (quoted_word user) d.high

undone_from : (user description tids : List ℕ) → From 32 (quoted_text user ++ 32 ∷ (quoted_text description ++ tids_text tids))
undone_from user description tids =
    let d = quoted_word description in
    both_from (quoted_text user) (quoted_text description ++ tids_text tids) (quoted_word user) (From-append 32 (quoted_text description) (tids_text tids) d.high (tids_from tids))

decimal_from : (number : ℕ) → number < 2 ^ 32 → From 32 (decimal number)
decimal_from number h = From-weaker 35 32 (decimal number) (omega arith) (all_digits_high (decimal number) (decimal_is_IsNumeral number (omega (arith, h))).0.1)

line_from : (l : Line) (text : List ℕ) → IsLineText text l → From 32 text
line_from (lines.Open false) text h = subst (From 32) (sym h) (from_test 32 (codes "open local") refl)
line_from (lines.Open true) text h = subst (From 32) (sym h) (from_test 32 (codes "open remote") refl)
line_from lines.Begin text h = subst (From 32) (sym h) (from_test 32 (codes "begin") refl)
line_from (lines.Load oid) text h = numbered_from (codes "load ") oid text (from_test 32 (codes "load ") refl) h
line_from (lines.Get oid) text h = numbered_from (codes "get ") oid text (from_test 32 (codes "get ") refl) h
line_from (lines.Store oid base bytes) text h =
    subst (From 32) (sym h.is) (From-append 32 (codes "store ") _ (from_test 32 (codes "store ") refl) (field_from oid _ (field_from base _ (From-weaker 48 32 _ (omega arith) (hex_from bytes)))))
line_from (lines.Put oid bytes) text h =
    let class = class_word h.class_text h.stored.class h.stored.class_spelled in
    let state = class_word h.state_text h.stored.state h.stored.state_spelled in
    subst (From 32) (sym h.is) (From-append 32 (codes "put ") _ (from_test 32 (codes "put ") refl) (field_from oid _ (From-append 32 h.class_text (32 ∷ h.state_text) class.high (omega arith, state.high))))
line_from (lines.Check oid serial) text h = paired_from (codes "check ") oid serial text (from_test 32 (codes "check ") refl) h
line_from (lines.Delete oid base) text h = paired_from (codes "delete ") oid base text (from_test 32 (codes "delete ") refl) h
line_from (lines.Tree root call) text h = tree_from text root call h
line_from lines.Savepoint text h = subst (From 32) (sym h) (from_test 32 (codes "savepoint") refl)
line_from (lines.Rollback number) text h = subst (From 32) (sym h.is) (From-append 32 (codes "rollback ") (decimal number) (from_test 32 (codes "rollback ") refl) (decimal_from number h.small))
line_from lines.New text h = subst (From 32) (sym h) (from_test 32 (codes "new") refl)
line_from (lines.Vote user description) text h =
    subst (From 32) (sym h.is) (From-append 32 (codes "vote ") (quoted_text user ++ 32 ∷ quoted_text description) (from_test 32 (codes "vote ") refl) (texts_from user description))
line_from (lines.Undo user description tids) text h =
    subst (From 32) (sym h.is) (From-append 32 (codes "undo ") (quoted_text user ++ 32 ∷ (quoted_text description ++ tids_text tids)) (from_test 32 (codes "undo ") refl) (undone_from user description tids))
line_from lines.Finish text h = subst (From 32) (sym h) (from_test 32 (codes "finish") refl)
line_from lines.Abort text h = subst (From 32) (sym h) (from_test 32 (codes "abort") refl)
line_from lines.Deliver text h = subst (From 32) (sym h) (from_test 32 (codes "deliver") refl)
line_from (lines.History oid) text h = numbered_from (codes "history ") oid text (from_test 32 (codes "history ") refl) h
line_from lines.UndoLog text h = subst (From 32) (sym h) (from_test 32 (codes "undolog") refl)
line_from (lines.Pack tid collect) text h = pack_from (codes "pack ") tid collect text (from_test 32 (codes "pack ") refl) h
line_from (lines.PackBegin tid collect) text h = pack_from (codes "packbegin ") tid collect text (from_test 32 (codes "packbegin ") refl) h
line_from lines.PackTurn text h = subst (From 32) (sym h) (from_test 32 (codes "packturn") refl)
line_from lines.Close text h = subst (From 32) (sym h) (from_test 32 (codes "close") refl)

pub turn_lacks : (text : List ℕ) (t : Turn) → IsTurnText text t → Lacks 10 text
turn_lacks text t h =
    let whole : From 32 (t.client ++ 32 ∷ h.line_text) = From-append 32 t.client (32 ∷ h.line_text) (From-weaker 48 32 _ (omega arith) (name_from t.client h.named)) (omega arith, line_from t.line h.line_text h.spelled) in
    Lacks-from text (subst (From 32) (sym h.is) whole)

pub turn_some : (text : List ℕ) (t : Turn) → IsTurnText text t → 0 < length text
turn_some [] t h = absurd (nothing t.client h.line_text h.is)
  where
    nothing : (client more : List ℕ) → [] ≡ client ++ 32 ∷ more → ⊥
    nothing [] more e = cc
    nothing (c ∷ client) more e = cc
turn_some (b ∷ text) t h = omega arith

-- ---- fields

pub line_is : (l : Line) (text : List ℕ) → IsLineText text l → IsLine l
line_is (lines.Open remote) text h = tt
line_is lines.Begin text h = tt
line_is (lines.Load oid) text h = h.small
line_is (lines.Get oid) text h = h.small
line_is (lines.Store oid base bytes) text h = (h.oid_small, h.base_small, h.payload)
line_is (lines.Put oid bytes) text h = (h.oid_small, record_some h.class_text h.state_text bytes h.stored)
line_is (lines.Check oid serial) text h = (h.first_small, h.second_small)
line_is (lines.Delete oid base) text h = (h.first_small, h.second_small)
line_is (lines.Tree root call) text h = tree_is text root call h
line_is lines.Savepoint text h = tt
line_is (lines.Rollback number) text h = h.small
line_is lines.New text h = tt
line_is (lines.Vote user description) text h = (h.user_short, h.description_short)
line_is (lines.Undo user description tids) text h = (h.user_short, h.description_short, h.undone)
line_is lines.Finish text h = tt
line_is lines.Abort text h = tt
line_is lines.Deliver text h = tt
line_is (lines.History oid) text h = h.small
line_is lines.UndoLog text h = tt
line_is (lines.Pack tid collect) text h = h.small
line_is (lines.PackBegin tid collect) text h = h.small
line_is lines.PackTurn text h = tt
line_is lines.Close text h = tt

pub turns_are : (texts : List (List ℕ)) (turns : List Turn) → AreTurnTexts texts turns → AllByRecursion IsTurn turns
turns_are [] [] h = tt
turns_are [] (t ∷ turns) h = absurd h
turns_are (text ∷ texts) [] h = absurd h
turns_are (text ∷ texts) (t ∷ turns) h = let one = h.0 in ((one.named, line_is t.line one.line_text one.spelled), turns_are texts turns h.1)
