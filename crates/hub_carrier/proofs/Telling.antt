-- A reply whose numbers its type can hold, and whose lists are short, can be told.
use Rattle.std.proofs.Common.{◌≡◌, ℕ, ◌+◌, ◌-◌, ◌≤◌, ◌<◌, ◌^◌, Bool, true, false, cond, List, [], ◌∷◌, ◌++◌, map, Option, length, length-append, refl, arith}
use Rattle.std.specs.Prelude.{codes, nat_le, nat_lt, zero, suc}
use Rattle.std.specs.List.{AllByRecursion, list_all}
use Rattle.std.proofs.lemmas.Bool.{and_parts, ltb-true}
use Rattle.zb_model.specs.declared.lists.LogLine.{LogLine}
use Rattle.zb_model.specs.declared.lists.Revision.{Revision}
use Rattle.zb_model.specs.declared.news.NewsCommit.{NewsCommit}
use Rattle.zb_model.specs.declared.refusal.Refusal.{Refusal}
use Rattle.zb_model.specs.declared.refusal.Refusal.TheVariants as refusals
use Rattle.zodb_core.specs.declared.reply.Reply.{Reply}
use Rattle.zodb_core.specs.declared.reply.Reply.TheVariants as reply
use Rattle.zeo_frames.specs.declared.limit.TheConstants.{FRAME_LIMIT}
use Rattle.zeo_messages.specs.declared.answer.Answer.{Answer}
use Rattle.zeo_messages.specs.declared.answer.Answer.TheVariants as answers
use Rattle.zeo_messages.specs.declared.answer.Stage.{Stage}
use Rattle.zeo_messages.specs.declared.answer.Stage.TheVariants as stages
use Rattle.zeo_messages.specs.declared.message.Notice.{Notice}
use Rattle.zeo_messages.specs.declared.message.Notice.TheVariants.{Forget, Invalidate, Packed}
use Rattle.zeo_messages.specs.Answers.{HoldsAnswer, HoldsCommit, HoldsLine, HoldsRefusal, HoldsRevision, commit_text, fits_line, fits_revision, line_text, revision_text, stage_name, value_of}
use Rattle.zeo_messages.specs.Calls.{is_short}
use Rattle.zeo_messages.specs.Messages.{HoldsNotice}
use Rattle.zeo_values.specs.Values.{AreIds, IsId, bytes_text, count_text, id_text, maybe_text, name_text}
use Rattle.zeo_values.specs.LengthLaws.{count_short, id_length, name_length}
use Rattle.zeo_news.specs.Notices.{commit_notice, fits_frame}
use Rattle.zeo_desk.specs.declared.asked.Asked.{Asked}
use Rattle.zeo_desk.specs.declared.asked.Asked.TheVariants as asked
use Rattle.zeo_desk.specs.Answering.{counted_length, front_answer, in_place_of, is_allowed, listed, number_alone, oids_from, packed_answer, reply_answer, sent_answer, since_answer, within_frame}
use Rattle.remote_loads.specs.Sending.{HoldsReply, notices_before}
use Rattle.hub_carrier.specs.Telling.{HasNumbers, IsFewer, IsShortCommit, IsShortRefusal, IsShortReply}
use Rattle.hub_carrier.proofs.Lengths.{bytes_short, commit_short, counted_short, ids_short, line_short, list_length, maybe_id, refusal_short, revision_short, total_short, tuple_length}

-- ---- an answer that is sent

in_place_held : (a : Asked) (n : ℕ) → n < 2 ^ 64 → HoldsAnswer (in_place_of a n)
in_place_held asked.Since n low = tt
in_place_held asked.Register n low = low
in_place_held asked.Finish n low = low
in_place_held (asked.NewsBehind tid) n low = low
in_place_held asked.PackTurn n low = low
in_place_held asked.Other n low = low

module _ (a : Asked) (answer : Answer) (held : HoldsAnswer answer) (short : is_allowed answer ≡ true → counted_length answer < 2 ^ 64) where
  within_held : is_allowed answer ≡ true → (b : Bool) → HoldsAnswer (cond b answer (in_place_of a (counted_length answer)))
  within_held row true = held
  within_held row false = in_place_held a (counted_length answer) (short row)

  by_row : (b : Bool) → is_allowed answer ≡ b → HoldsAnswer (cond b (within_frame a answer (counted_length answer)) (answers.Refused refusals.BadMessage))
  by_row true row = within_held row (nat_le (counted_length answer) FRAME_LIMIT)
  by_row false row = tt

  sent_held : HoldsAnswer (sent_answer a answer)
  sent_held = by_row (is_allowed answer) refl

-- a value of so many bytes
sent_short : (a : Asked) (answer : Answer) → HoldsAnswer answer → length (value_of answer) ≤ 2 ^ 63 → HoldsAnswer (sent_answer a answer)
sent_short a answer held short = sent_held a answer held (λ row. counted_short answer short)

-- ---- answers of few bytes

done_held : (a : Asked) → HoldsAnswer (sent_answer a answers.Done)
done_held a = sent_short a answers.Done tt (omega arith)

empty_held : (a : Asked) → HoldsAnswer (sent_answer a answers.EmptyList)
empty_held a = let x = list_length [] in sent_short a answers.EmptyList tt (omega (arith, x))

tid_held : (a : Asked) (tid : ℕ) → IsId tid → HoldsAnswer (sent_answer a (answers.OneTid tid))
tid_held a tid held = let x = id_length tid in sent_short a (answers.OneTid tid) held (omega (arith, x))

nothing_held : (a : Asked) (switches : ℕ) → IsId switches → HoldsAnswer (sent_answer a (answers.Nothing switches))
nothing_held a switches held =
    let x = tuple_length ((0x4e ∷ []) ∷ count_text switches ∷ []) in
    let y = count_short switches in
    sent_short a (answers.Nothing switches) held (omega (arith, x, y))

pair_held : (a : Asked) (tid count : ℕ) → IsId tid → IsId count → HoldsAnswer (sent_answer a (answers.TidAndCount tid count))
pair_held a tid count one two =
    let x = tuple_length (id_text tid ∷ count_text count ∷ []) in
    let y = id_length tid in
    let z = count_short count in
    sent_short a (answers.TidAndCount tid count) (one, two) (omega (arith, x, y, z))

packed_held : (a : Asked) (kept dropped : ℕ) → IsId kept → IsId dropped → HoldsAnswer (sent_answer a (answers.Packed kept dropped))
packed_held a kept dropped one two =
    let x = tuple_length (count_text kept ∷ count_text dropped ∷ []) in
    let y = count_short kept in
    let z = count_short dropped in
    sent_short a (answers.Packed kept dropped) (one, two) (omega (arith, x, y, z))

switched_held : (a : Asked) (kept dropped : ℕ) → IsId kept → IsId dropped → HoldsAnswer (sent_answer a (answers.Switched kept dropped))
switched_held a kept dropped one two =
    let x = tuple_length (name_text (codes "packed") ∷ count_text kept ∷ count_text dropped ∷ []) in
    let w = name_length (codes "packed") in
    let y = count_short kept in
    let z = count_short dropped in
    sent_short a (answers.Switched kept dropped) (one, two) (omega (arith, x, w, y, z))

stage_length : (stage : Stage) → length (stage_name stage) ≤ 10
stage_length stages.Marking = omega arith
stage_length stages.Marked = omega arith
stage_length stages.Copying = omega arith
stage_length stages.Copied = omega arith

turned_held : (a : Asked) (stage : Stage) (count : ℕ) → IsId count → HoldsAnswer (sent_answer a (answers.Turned stage count))
turned_held a stage count held =
    let x = tuple_length (name_text (stage_name stage) ∷ count_text count ∷ []) in
    let w = name_length (stage_name stage) in
    let y = stage_length stage in
    let z = count_short count in
    sent_short a (answers.Turned stage count) held (omega (arith, x, w, y, z))

-- ---- longer ones

loaded_held : (a : Asked) (serial : ℕ) (bytes : List ℕ) (end : Option ℕ) (upto : ℕ) → HasNumbers (reply.Loaded serial bytes end upto) → IsFewer (length bytes) → HoldsAnswer (sent_answer a (answers.Loaded bytes serial end upto))
loaded_held a serial bytes end upto held few =
    let x = tuple_length (bytes_text bytes ∷ id_text serial ∷ maybe_text id_text end ∷ id_text upto ∷ []) in
    let y = bytes_short bytes in
    let z = id_length serial in
    let w = maybe_id end in
    let v = id_length upto in
    sent_short a (answers.Loaded bytes serial end upto) held (omega (arith, x, y, z, w, v, few))

refused_held : (a : Asked) (refusal : Refusal) → HoldsRefusal refusal → IsShortRefusal refusal → HoldsAnswer (sent_answer a (answers.Refused refusal))
refused_held a refusal held few = let x = refusal_short refusal few in sent_short a (answers.Refused refusal) held (omega (arith, x))

-- numbers for new objects
alone_held : (n : ℕ) (b : Bool) → nat_lt n (2 ^ 64) ≡ b → AreIds (cond b (n ∷ []) [])
alone_held n true low = (ltb-true n (2 ^ 64) low, tt)
alone_held n false low = tt

alone_length : (n : ℕ) (b : Bool) → length {A = ℕ} (cond b (n ∷ []) []) ≤ 1
alone_length n true = omega arith
alone_length n false = omega arith

ids_behind : (front behind : List ℕ) → AreIds front → AreIds behind → AreIds (front ++ behind)
ids_behind [] behind one two = two
ids_behind (n ∷ front) behind one two = (one.0, ids_behind front behind one.1 two)

oids_held : (count first : ℕ) → AreIds (oids_from count first)
oids_held zero first = tt
oids_held (suc count) first = ids_behind (oids_from count first) (number_alone (first + count)) (oids_held count first) (alone_held (first + count) (nat_lt (first + count) (2 ^ 64)) refl)

oids_length : (count first : ℕ) → length (oids_from count first) ≤ count
oids_length zero first = omega arith
oids_length (suc count) first =
    let a = length-append (oids_from count first) (number_alone (first + count)) in
    let b = oids_length count first in
    let c = alone_length (first + count) (nat_lt (first + count) (2 ^ 64)) in
    omega (arith, a, b, c)

numbers_held : (a : Asked) (oids : List ℕ) → AreIds oids → length oids < 2 ^ 32 → HoldsAnswer (sent_answer a (listed answers.Oids oids))
numbers_held a [] held few = empty_held a
numbers_held a (n ∷ oids) held few = let x = ids_short (n ∷ oids) in sent_short a (answers.Oids (n ∷ oids)) held (omega (arith, x, few))

-- ---- lists

short_text : (text : List ℕ) → nat_lt (length text) 65536 ≡ true → length text ≤ 65535
short_text text is = let a = ltb-true (length text) 65536 is in omega (arith, a)

revision_fits : (r : Revision) → fits_revision r ≡ true → length (revision_text r) ≤ 140000
revision_fits r fits = revision_short r (short_text r.user (and_parts (is_short r.user) (is_short r.description) fits).0) (short_text r.description (and_parts (is_short r.user) (is_short r.description) fits).1)

line_fits : (l : LogLine) → fits_line l ≡ true → length (line_text l) ≤ 140000
line_fits l fits = line_short l (short_text l.user (and_parts (is_short l.user) (is_short l.description) fits).0) (short_text l.description (and_parts (is_short l.user) (is_short l.description) fits).1)

all_so : {T : Type 0} (test : T → Bool) (items : List T) → list_all test items ≡ true → AllByRecursion (λ x. test x ≡ true) items
all_so test [] is = tt
all_so test (x ∷ items) is = ((and_parts (test x) (list_all test items) is).0, all_so test items (and_parts (test x) (list_all test items) is).1)

revisions_held : (a : Asked) (list : List Revision) → AllByRecursion HoldsRevision list → IsFewer (length list) → HoldsAnswer (sent_answer a (listed answers.Revisions list))
revisions_held a [] held few = empty_held a
revisions_held a (r ∷ list) held few = sent_held a (answers.Revisions (r ∷ list)) held (λ row.
    let x = list_length (map revision_text (r ∷ list)) in
    let y = total_short revision_text (λ k. fits_revision k ≡ true) 140000 revision_fits (r ∷ list) (all_so fits_revision (r ∷ list) row) in
    counted_short (answers.Revisions (r ∷ list)) (omega (arith, x, y, few)))

lines_held : (a : Asked) (list : List LogLine) → AllByRecursion HoldsLine list → IsFewer (length list) → HoldsAnswer (sent_answer a (listed answers.LogLines list))
lines_held a [] held few = empty_held a
lines_held a (l ∷ list) held few = sent_held a (answers.LogLines (l ∷ list)) held (λ row.
    let x = list_length (map line_text (l ∷ list)) in
    let y = total_short line_text (λ k. fits_line k ≡ true) 140000 line_fits (l ∷ list) (all_so fits_line (l ∷ list) row) in
    counted_short (answers.LogLines (l ∷ list)) (omega (arith, x, y, few)))

commits_held : (a : Asked) (commits : List NewsCommit) → AllByRecursion HoldsCommit commits → length commits < 2 ^ 16 → AllByRecursion IsShortCommit commits → HoldsAnswer (sent_answer a (listed answers.Commits commits))
commits_held a [] held few short = empty_held a
commits_held a (c ∷ commits) held few short =
    let x = list_length (map commit_text (c ∷ commits)) in
    let y = total_short commit_text IsShortCommit (2 ^ 44) commit_short (c ∷ commits) short in
    sent_short a (answers.Commits (c ∷ commits)) held (omega (arith, x, y, few))

since_held : (a : Asked) (keep : Bool) (commits : List NewsCommit) → AllByRecursion HoldsCommit commits → length commits < 2 ^ 16 → AllByRecursion IsShortCommit commits → HoldsAnswer (sent_answer a (since_answer keep commits))
since_held a true commits held few short = commits_held a commits held few short
since_held a false commits held few short = done_held a

-- ---- by what was asked

before_id : (front : ℕ) → IsId front → IsId (front - 1)
before_id front held = omega (arith, held)

front_held : (a : Asked) (front switches : ℕ) → IsId front → IsId switches → HoldsAnswer (sent_answer a (front_answer a front switches))
front_held asked.Register front switches one two = tid_held asked.Register (front - 1) (before_id front one)
front_held asked.Finish front switches one two = pair_held asked.Finish front switches one two
front_held (asked.NewsBehind tid) front switches one two = pair_held (asked.NewsBehind tid) front switches one two
front_held asked.PackTurn front switches one two = pair_held asked.PackTurn front switches one two
front_held asked.Since front switches one two = pair_held asked.Since front switches one two
front_held asked.Other front switches one two = pair_held asked.Other front switches one two

over_held : (a : Asked) (kept dropped : ℕ) → IsId kept → IsId dropped → HoldsAnswer (sent_answer a (packed_answer a kept dropped))
over_held asked.PackTurn kept dropped one two = switched_held asked.PackTurn kept dropped one two
over_held asked.Register kept dropped one two = packed_held asked.Register kept dropped one two
over_held asked.Finish kept dropped one two = packed_held asked.Finish kept dropped one two
over_held (asked.NewsBehind tid) kept dropped one two = packed_held (asked.NewsBehind tid) kept dropped one two
over_held asked.Since kept dropped one two = packed_held asked.Since kept dropped one two
over_held asked.Other kept dropped one two = packed_held asked.Other kept dropped one two

answer_held : (r : Reply) → HasNumbers r → IsShortReply r → (a : Asked) → HoldsAnswer (sent_answer a (reply_answer a r))
answer_held (reply.Front front news switches) held short a = front_held a front switches held.0 held.1
answer_held (reply.Loaded serial bytes end upto) held short a = loaded_held a serial bytes end upto held short
answer_held (reply.Nothing oid switches) held short a = nothing_held a switches held
answer_held (reply.Oids first count) held short a = let n = oids_length count first in numbers_held a (oids_from count first) (oids_held count first) (omega (arith, n, held))
answer_held reply.Voted held short a = done_held a
answer_held (reply.Committed tid) held short a = tid_held a tid held
answer_held reply.Empty held short a = done_held a
answer_held reply.Aborted held short a = done_held a
answer_held (reply.History list) held short a = revisions_held a list held short
answer_held (reply.UndoLog list) held short a = lines_held a list held short
answer_held (reply.Packed kept dropped) held short a = over_held a kept dropped held.0 held.1
answer_held (reply.Packing tid) held short a = tid_held a tid held
answer_held (reply.Marking count) held short a = turned_held a stages.Marking count held
answer_held (reply.Marked count) held short a = turned_held a stages.Marked count held
answer_held (reply.Copying count) held short a = turned_held a stages.Copying count held
answer_held (reply.Copied count) held short a = turned_held a stages.Copied count held
answer_held (reply.Last tid changes) held short a = pair_held a tid changes held.0 held.1
answer_held (reply.Since keep commits) held short a = since_held a keep commits held short.0 short.1
answer_held reply.Closed held short a = done_held a
answer_held (reply.Refused refusal) held short a = refused_held a refusal held short

-- ---- news

notice_held : (front : ℕ) (c : NewsCommit) → IsId front → HoldsCommit c → (b : Bool) → HoldsNotice (cond b (Invalidate c.tid c.oids) (Forget front))
notice_held front c one two true = two
notice_held front c one two false = one

notices_held : (front : ℕ) (commits : List NewsCommit) → IsId front → AllByRecursion HoldsCommit commits → AllByRecursion HoldsNotice (map (commit_notice front) commits)
notices_held front [] one all = tt
notices_held front (c ∷ commits) one all = (notice_held front c one all.0 (fits_frame (Invalidate c.tid c.oids)), notices_held front commits one all.1)

first_held : (front : ℕ) (forget packed : Bool) (behind : List Notice) → IsId front → AllByRecursion HoldsNotice behind
    → AllByRecursion HoldsNotice (cond forget (Forget front ∷ []) (cond packed (Packed (front - 1) ∷ []) []) ++ behind)
first_held front true packed behind held all = (held, all)
first_held front false true behind held all = (before_id front held, all)
first_held front false false behind held all = all

news_held : (r : Reply) → HasNumbers r → AllByRecursion HoldsNotice (notices_before r)
news_held (reply.Front front news switches) held = first_held front news.forget news.packed (map (commit_notice front) news.commits) held.0 (notices_held front news.commits held.0 held.2)
news_held _ held = tt

pub reply_holds : (r : Reply) → HasNumbers r → IsShortReply r → HoldsReply r
reply_holds r held short = record { answer = answer_held r held short; notices = news_held r held }
