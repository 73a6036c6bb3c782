-- Messages are read as they were written.
use Rattle.std.proofs.Common.{◌≡◌, ℕ, ◌^◌, ◌<◌, true, false, ◌&&◌, ltb, List, [], ◌∷◌, ◌++◌, Option, Some, None, Result, Ok, Err, length, refl, sym, ap, ◌∙◌, append_assoc, arith}
use Rattle.std.specs.Prelude.{codes}
use Rattle.std.specs.Option.{option_map}
use Rattle.std.specs.Str.{bytes_eq}
use Rattle.std.proofs.lemmas.Bool.{and_parts, and_from, lt-ltb, ltb-true}
use Rattle.std.proofs.lemmas.Slice.Eq.{bytes_eq-Decides}
use Rattle.zeo_messages.specs.declared.call.Call.{Call}
use Rattle.zeo_messages.specs.declared.call.Call.TheVariants as calls
use Rattle.zb_model.specs.declared.refusal.Refusal.{Refusal}
use Rattle.zeo_messages.specs.declared.answer.Answer.{Answer}
use Rattle.zeo_messages.specs.declared.answer.Answer.TheVariants as answers
use Rattle.zeo_messages.specs.declared.message.Message.{Message}
use Rattle.zeo_messages.specs.declared.message.Notice.{Notice}
use Rattle.zeo_messages.specs.declared.message.Notice.TheVariants as notices
use Rattle.zeo_messages.specs.declared.message.Message.TheVariants.{Asked, Answered, Told}
use Rattle.zeo_values.specs.Values.{count_text, id_text, list_of, name_text, tuple_text, AreIds, IsId}
use Rattle.zeo_messages.specs.Calls.{HoldsCall, arguments_of, fits_call, flag_of, method_of}
use Rattle.zeo_messages.specs.Answers.{HoldsAnswer, fits_answer, kind_of, value_of}
use Rattle.zeo_messages.specs.Messages.{HoldsNotice, IsHeld, fits, is_number, payload_of, payload_with}
use Rattle.zeo_reading.specs.Loose.{answer_in, call_in, loose_message, named_message, notice_in, or_else, refused}
use Rattle.zeo_values.specs.Leaves.{behind, behind_count, behind_name, count_in, id_in, ids_in, name_in, small}
use Rattle.zeo_reading.specs.declared.error.MessageError.{MessageError}
use Rattle.zeo_reading.specs.declared.error.MessageError.TheVariants.{BadMessage, Memory}
use Rattle.zeo_reading.specs.Reading.{AreReadBack, IsNoMessage, Reads, checked, message_in}
use Rattle.zeo_values.specs.ValueLaws.{behind_name_again, count_again, id_again, if_true, name_again, small_same}
use Rattle.zeo_reading.proofs.AnswerRows.{nothing_again, packed_again, revision_again, switched_again, tid_again, tid_and_count_again, turned_again}
use Rattle.zeo_values.specs.FormLaws.{single_form}
use Rattle.zeo_values.specs.ListLaws.{ids_again}
use Rattle.zeo_reading.proofs.ListRows.{commits_reply, lines_reply, oids_reply, revisions_reply}
use Rattle.zeo_reading.proofs.RefusalRows.{refusal_again}
use Rattle.zeo_reading.proofs.CallRows.{call_again}

-- behind a small flag
behind_flag : (flag : ℕ) (rest : List ℕ) → flag < 2 → behind 2 (count_text flag ++ rest) ≡ rest
unfolding behind count_text
behind_flag flag rest h = rw (lt-ltb flag (2 ^ 8) (omega arith)) refl

-- the head of a message
pub headed : (number flag : ℕ) (name value : List ℕ) → number < 2 ^ 31 → flag < 2 → length name < 2 ^ 32
    → loose_message (payload_with number flag name value) ≡ named_message number name (value ++ 0x74 ∷ 0x2e ∷ [])
unfolding behind
headed number flag name value h f long =
    let rest : List ℕ = name_text name ++ (value ++ 0x74 ∷ 0x2e ∷ []) in
    let counted = count_again number (count_text flag ++ rest) (omega arith) in
    let same : small (count_in (count_text number ++ (count_text flag ++ rest))) ≡ number = ap small counted.number ∙ small_same number (omega arith) in
    let flagged = behind_flag flag rest f in
    ap (λ (n : ℕ). named_message n (name_in (behind 2 (behind_count (count_text number ++ (count_text flag ++ rest)))))
    (behind_name (behind 2 (behind_count (count_text number ++ (count_text flag ++ rest)))))) same
    ∙ ap (λ (x : List ℕ). named_message number (name_in (behind 2 x)) (behind_name (behind 2 x))) counted.left
    ∙ ap (λ (x : List ℕ). named_message number (name_in x) (behind_name x)) flagged
    ∙ ap (λ (x : List ℕ). named_message number x (behind_name rest)) (name_again name (value ++ 0x74 ∷ 0x2e ∷ []) long)
    ∙ ap (λ (x : List ℕ). named_message number name x) (behind_name_again name (value ++ 0x74 ∷ 0x2e ∷ []) long)

method_short : (call : Call) → ltb (length (method_of call)) 64 ≡ true
method_short (calls.Register again) = refl
method_short (calls.LoadBefore oid front) = refl
method_short (calls.NewOids count) = refl
method_short (calls.TpcBegin user description extension) = refl
method_short (calls.Storea oid base bytes) = refl
method_short (calls.DeleteObject oid base) = refl
method_short (calls.CheckCurrentSerial oid serial) = refl
method_short calls.Vote = refl
method_short (calls.Undoa user description tids) = refl
method_short calls.TpcFinish = refl
method_short calls.TpcAbort = refl
method_short (calls.History oid) = refl
method_short calls.UndoInfo = refl
method_short (calls.Pack tid true) = refl
method_short (calls.Pack tid false) = refl
method_short (calls.PackBegin tid true) = refl
method_short (calls.PackBegin tid false) = refl
method_short calls.PackTurn = refl
method_short calls.Sync = refl
method_short calls.LastTransaction = refl
method_short (calls.GetInvalidations tid changes) = refl

flag_small : (call : Call) → ltb (flag_of call) 2 ≡ true
flag_small (calls.Register again) = refl
flag_small (calls.LoadBefore oid front) = refl
flag_small (calls.NewOids count) = refl
flag_small (calls.TpcBegin user description extension) = refl
flag_small (calls.Storea oid base bytes) = refl
flag_small (calls.DeleteObject oid base) = refl
flag_small (calls.CheckCurrentSerial oid serial) = refl
flag_small calls.Vote = refl
flag_small (calls.Undoa user description tids) = refl
flag_small calls.TpcFinish = refl
flag_small calls.TpcAbort = refl
flag_small (calls.History oid) = refl
flag_small calls.UndoInfo = refl
flag_small (calls.Pack tid collect) = refl
flag_small (calls.PackBegin tid collect) = refl
flag_small calls.PackTurn = refl
flag_small calls.Sync = refl
flag_small calls.LastTransaction = refl
flag_small (calls.GetInvalidations tid changes) = refl

-- a method of a call is none of an answer or of what is told
by_method : (call : Call) (number : ℕ) (rest : List ℕ) → named_message number (method_of call) rest ≡ option_map (λ c. Asked number c) (call_in (method_of call) rest)
by_method (calls.Register again) number rest = refl
by_method (calls.LoadBefore oid front) number rest = refl
by_method (calls.NewOids count) number rest = refl
by_method (calls.TpcBegin user description extension) number rest = refl
by_method (calls.Storea oid base bytes) number rest = refl
by_method (calls.DeleteObject oid base) number rest = refl
by_method (calls.CheckCurrentSerial oid serial) number rest = refl
by_method calls.Vote number rest = refl
by_method (calls.Undoa user description tids) number rest = refl
by_method calls.TpcFinish number rest = refl
by_method calls.TpcAbort number rest = refl
by_method (calls.History oid) number rest = refl
by_method calls.UndoInfo number rest = refl
by_method (calls.Pack tid true) number rest = refl
by_method (calls.Pack tid false) number rest = refl
by_method (calls.PackBegin tid true) number rest = refl
by_method (calls.PackBegin tid false) number rest = refl
by_method calls.PackTurn number rest = refl
by_method calls.Sync number rest = refl
by_method calls.LastTransaction number rest = refl
by_method (calls.GetInvalidations tid changes) number rest = refl

pub asked_again : (number : ℕ) (call : Call) → HoldsCall call → number < 2 ^ 31 → fits_call call ≡ true → loose_message (payload_of (Asked number call)) ≡ Some (Asked number call)
asked_again number call h less f =
    let tail : List ℕ = 0x74 ∷ 0x2e ∷ [] in
    let short : length (method_of call) < 64 = ltb-true (length (method_of call)) 64 (method_short call) in
    headed number (flag_of call) (method_of call) (tuple_text (arguments_of call)) less (ltb-true (flag_of call) 2 (flag_small call)) (omega arith)
    ∙ by_method call number (tuple_text (arguments_of call) ++ tail)
    ∙ ap (λ (x : Option Call). option_map (λ c. Asked number c) x) (call_again call tail h f)

-- ---- answers

kind_short : (answer : Answer) → ltb (length (kind_of answer)) 64 ≡ true
kind_short answers.Done = refl
kind_short (answers.OneTid tid) = refl
kind_short (answers.Loaded bytes serial end upto) = refl
kind_short (answers.Nothing switches) = refl
kind_short answers.EmptyList = refl
kind_short (answers.Oids oids) = refl
kind_short (answers.Revisions list) = refl
kind_short (answers.LogLines list) = refl
kind_short (answers.Commits list) = refl
kind_short (answers.Packed kept dropped) = refl
kind_short (answers.Turned stage count) = refl
kind_short (answers.Switched kept dropped) = refl
kind_short (answers.TidAndCount tid count) = refl
kind_short (answers.Refused refusal) = refl

value_again : (answer : Answer) → HoldsAnswer answer → fits_answer answer ≡ true → answer_in (kind_of answer) (value_of answer ++ 0x74 ∷ 0x2e ∷ []) ≡ Some answer
value_again answers.Done h f = refl
value_again (answers.OneTid tid) h f = ap (λ (x : Answer). Some x) (tid_again tid (0x2e ∷ []) h)
value_again (answers.Loaded bytes serial end upto) h f =
    ap (λ (x : Answer). Some x) (revision_again bytes serial upto end (0x74 ∷ 0x2e ∷ []) (ltb-true (length bytes) (2 ^ 32) f) h.0 h.1 h.2)
value_again (answers.Nothing switches) h f = ap (λ (x : Answer). Some x) (nothing_again switches (0x74 ∷ 0x2e ∷ []) h)
value_again answers.EmptyList h f = refl
value_again (answers.Oids oids) h f = ap (λ (x : Answer). Some x) (oids_reply oids (0x2e ∷ []) h f)
value_again (answers.Revisions list) h f = ap (λ (x : Answer). Some x) (revisions_reply list (0x2e ∷ []) h f)
value_again (answers.LogLines list) h f = ap (λ (x : Answer). Some x) (lines_reply list (0x2e ∷ []) h f)
value_again (answers.Commits list) h f = ap (λ (x : Answer). Some x) (commits_reply list (0x2e ∷ []) h f)
value_again (answers.Packed kept dropped) h f = ap (λ (x : Answer). Some x) (packed_again kept dropped (0x74 ∷ 0x2e ∷ []) h.0 h.1)
value_again (answers.Turned stage count) h f = ap (λ (x : Answer). Some x) (turned_again stage count (0x74 ∷ 0x2e ∷ []) h)
value_again (answers.Switched kept dropped) h f = ap (λ (x : Answer). Some x) (switched_again kept dropped (0x74 ∷ 0x2e ∷ []) h.0 h.1)
value_again (answers.TidAndCount tid count) h f = ap (λ (x : Answer). Some x) (tid_and_count_again tid count (0x74 ∷ 0x2e ∷ []) h.0 h.1)
value_again (answers.Refused refusal) h f = ap (λ (x : Option Refusal). refused x) (refusal_again refusal h)

pub answered_again : (number : ℕ) (answer : Answer) → HoldsAnswer answer → number < 2 ^ 31 → fits_answer answer ≡ true
    → loose_message (payload_of (Answered number answer)) ≡ Some (Answered number answer)
answered_again number answer h less f =
    let rest : List ℕ = value_of answer ++ 0x74 ∷ 0x2e ∷ [] in
    let short : length (kind_of answer) < 64 = ltb-true (length (kind_of answer)) 64 (kind_short answer) in
    let other : Option Message = or_else (option_map (λ notice. Told notice) (notice_in (kind_of answer) rest)) (option_map (λ c. Asked number c) (call_in (kind_of answer) rest)) in
    headed number 0 (kind_of answer) (value_of answer) less (omega arith) (omega arith)
    ∙ ap (λ (x : Option Answer). or_else (option_map (λ a. Answered number a) x) other) (value_again answer h f)

-- ---- what is told

invalidate_again : (tid : ℕ) (oids : List ℕ) → IsId tid → AreIds oids
    → let rest : List ℕ = tuple_text (id_text tid ∷ list_of id_text oids ∷ []) ++ 0x74 ∷ 0x2e ∷ [] in
    Some (Told (notices.Invalidate (id_in rest) (ids_in (behind 10 rest)))) ≡ Some (Told (notices.Invalidate tid oids))
unfolding behind id_text
invalidate_again tid oids h all =
    let more : List ℕ = (list_of id_text oids ++ 0x86 ∷ []) ++ 0x74 ∷ 0x2e ∷ [] in
    ap (λ (x : ℕ). Some (Told (notices.Invalidate x (ids_in more)))) (id_again tid more h)
    ∙ ap (λ (x : List ℕ). Some (Told (notices.Invalidate tid (ids_in x)))) (append_assoc (list_of id_text oids) (0x86 ∷ []) (0x74 ∷ 0x2e ∷ []))
    ∙ ap (λ (x : List ℕ). Some (Told (notices.Invalidate tid x))) (ids_again oids 0x86 (0x74 ∷ 0x2e ∷ []) all (omega arith) (omega arith))

pub told_again : (notice : Notice) → HoldsNotice notice → loose_message (payload_of (Told notice)) ≡ Some (Told notice)
told_again (notices.Invalidate tid oids) h =
    headed 0 1 (codes "invalidateTransaction") (tuple_text (id_text tid ∷ list_of id_text oids ∷ [])) (omega arith) (omega arith) (omega arith) ∙ invalidate_again tid oids h.0 h.1
told_again (notices.Forget front) h =
    headed 0 1 (codes "forget") (tuple_text (id_text front ∷ [])) (omega arith) (omega arith) (omega arith)
    ∙ single_form (λ x. Some (Told (notices.Forget x))) front (0x85 ∷ []) (0x74 ∷ 0x2e ∷ []) h
told_again (notices.Packed tid) h =
    headed 0 1 (codes "packed") (tuple_text (id_text tid ∷ [])) (omega arith) (omega arith) (omega arith)
    ∙ single_form (λ x. Some (Told (notices.Packed x))) tid (0x85 ∷ []) (0x74 ∷ 0x2e ∷ []) h

-- ---- all messages

loose_again : (message : Message) → IsHeld message → fits message ≡ true → loose_message (payload_of message) ≡ Some message
loose_again (Asked number call) h f =
    let parts = and_parts (is_number number) (fits_call call) f in
    asked_again number call h (ltb-true number (2 ^ 31) parts.0) parts.1
loose_again (Answered number answer) h f =
    let parts = and_parts (is_number number) (fits_answer answer) f in
    answered_again number answer h (ltb-true number (2 ^ 31) parts.0) parts.1
loose_again (Told notice) h f = told_again notice h

pub read_back : AreReadBack
unfolding message_in
read_back message h f =
    let same : bytes_eq (payload_of message) (payload_of message) ≡ true = (bytes_eq-Decides (payload_of message) (payload_of message)).1 refl in
    ap (λ (x : Option Message). checked (payload_of message) x) (loose_again message h f)
    ∙ if_true (fits message && bytes_eq (payload_of message) (payload_of message)) (Some message) None (and_from (fits message) (bytes_eq (payload_of message) (payload_of message)) f same)

-- where nothing is read, no message is spelled
pub no_message : (payload : List ℕ) → message_in payload ≡ None → IsNoMessage payload
no_message payload none message h f spelled =
    let some : message_in payload ≡ Some message = ap message_in spelled ∙ read_back message h f in
    let e : None ≡ Some message = sym none ∙ some in
    cc

-- where the answer is that there is no message, no message is spelled
pub bad_reads : (result : Result Message MessageError) (payload : List ℕ) → Reads result (message_in payload) → result ≡ Err BadMessage → IsNoMessage payload
bad_reads (Ok message) payload reads e = absurd (cc)
bad_reads (Err BadMessage) payload reads e = no_message payload reads
bad_reads (Err Memory) payload reads e = absurd (cc)
