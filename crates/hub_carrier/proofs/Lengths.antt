-- How long the values of answers are at most.
use Rattle.std.proofs.Common.{◌≡◌, ℕ, ◌+◌, ◌*◌, ◌-◌, ◌≤◌, ◌<◌, ◌^◌, Bool, true, false, cond, List, [], ◌∷◌, map, Option, Some, None, length, length-append, refl, arith}
use Rattle.std.specs.Prelude.{codes, nat_lt, nat_eq}
use Rattle.std.specs.List.{AllByRecursion}
use Rattle.std.proofs.lemmas.Bool.{ltb-false}
use Rattle.zb_model.specs.declared.lists.LogLine.{LogLine}
use Rattle.zb_model.specs.declared.lists.Revision.{Revision}
use Rattle.zb_model.specs.declared.news.NewsCommit.{NewsCommit}
use Rattle.zb_model.specs.declared.refusal.Refusal.{Refusal}
use Rattle.zb_model.specs.declared.refusal.Refusal.TheVariants as refusals
use Rattle.zb_model.specs.declared.refusal.Why.{Why}
use Rattle.zb_model.specs.declared.refusal.Why.TheVariants as why
use Rattle.zeo_messages.specs.declared.answer.Answer.{Answer}
use Rattle.zeo_messages.specs.declared.answer.Answer.TheVariants as answers
use Rattle.zeo_messages.specs.Answers.{commit_text, kind_of, line_text, refusal_fields, refusal_name, refusal_text, revision_text, value_of, why_fields, why_name}
use Rattle.zeo_messages.specs.LengthLaws.{payload_length}
use Rattle.zeo_values.specs.LengthLaws.{count_short, id_length, long_bytes_length, name_length, zero_length}
use Rattle.zeo_values.specs.Values.{bytes_text, closing, count_text, ended, id_text, list_of, list_text, maybe_text, name_text, opening, tuple_text}
use Rattle.zeo_frames.specs.declared.limit.TheConstants.{FRAME_LIMIT}
use Rattle.zeo_desk.specs.Answering.{counted_length}
use Rattle.hub_carrier.specs.Telling.{IsShortCommit, IsShortRefusal, IsShortWhy}

-- ---- parts

-- the length of items, one behind the other
abbrev pub total : List (List ℕ) → ℕ
total [] = 0
total (item ∷ items) = length item + total items

ended_length : (items : List (List ℕ)) (end : List ℕ) → length (ended items end) ≡ total items + length end
ended_length [] end = omega arith
ended_length (item ∷ items) end =
    let a = length-append item (ended items end) in
    let b = ended_length items end in
    omega (arith, a, b)

pub tuple_length : (items : List (List ℕ)) → length (tuple_text items) ≤ total items + 2
tuple_length [] = omega arith
tuple_length (a ∷ []) = let x = ended_length (a ∷ []) (0x85 ∷ []) in omega (arith, x)
tuple_length (a ∷ (b ∷ [])) = let x = ended_length (a ∷ b ∷ []) (0x86 ∷ []) in omega (arith, x)
tuple_length (a ∷ (b ∷ (c ∷ []))) = let x = ended_length (a ∷ b ∷ c ∷ []) (0x87 ∷ []) in omega (arith, x)
tuple_length (a ∷ (b ∷ (c ∷ (d ∷ items)))) = let x = ended_length (a ∷ b ∷ c ∷ d ∷ items) (0x74 ∷ []) in omega (arith, x)

opening_length : (b : Bool) → length {A = ℕ} (cond b (0x28 ∷ []) []) ≤ 1
opening_length true = omega arith
opening_length false = omega arith

closing_length : (b c : Bool) → length {A = ℕ} (cond b (0x65 ∷ []) (cond c (0x61 ∷ []) [])) ≤ 1
closing_length true c = omega arith
closing_length false true = omega arith
closing_length false false = omega arith

pub list_length : (items : List (List ℕ)) → length (list_text items) ≤ total items + 3
list_length items =
    let a = length-append (opening (length items)) (ended items (closing (length items))) in
    let b = ended_length items (closing (length items)) in
    let c = opening_length (nat_lt 1 (length items)) in
    let d = closing_length (nat_lt 1 (length items)) (nat_eq (length items) 1) in
    omega (arith, a, b, c, d)

-- items of at most so many bytes each
pub total_short : {T : Type 0} (text : T → List ℕ) (P : T → Type 0) (most : ℕ) → ((x : T) → P x → length (text x) ≤ most) → (items : List T) → AllByRecursion P items → total (map text items) ≤ most * length items
total_short text P most short [] all = omega arith
total_short text P most short (x ∷ items) all =
    let a = short x all.0 in
    let b = total_short text P most short items all.1 in
    omega (arith, a, b)

-- ---- values

few_bytes : (bytes : List ℕ) (b : Bool) → nat_lt (length bytes) 256 ≡ b → length (bytes_text bytes) ≤ length bytes + 5
unfolding bytes_text
few_bytes bytes true is = rw is (omega arith)
few_bytes bytes false is = let a = long_bytes_length bytes (ltb-false (length bytes) 256 is) in omega (arith, a)

pub bytes_short : (bytes : List ℕ) → length (bytes_text bytes) ≤ length bytes + 5
bytes_short bytes = few_bytes bytes (nat_lt (length bytes) 256) refl

pub maybe_id : (n : Option ℕ) → length (maybe_text id_text n) ≤ 10
maybe_id None = omega arith
maybe_id (Some n) = let a = id_length n in omega (arith, a)

maybe_count : (n : Option ℕ) → length (maybe_text count_text n) ≤ 11
maybe_count None = omega arith
maybe_count (Some n) = count_short n

-- an item of a history, of the log, and of what was committed since
pub revision_short : (r : Revision) → length r.user ≤ 65535 → length r.description ≤ 65535 → length (revision_text r) ≤ 140000
revision_short r user description =
    let a = tuple_length (id_text r.tid ∷ maybe_text count_text r.size ∷ bytes_text r.user ∷ bytes_text r.description ∷ []) in
    let b = id_length r.tid in
    let c = maybe_count r.size in
    let d = bytes_short r.user in
    let e = bytes_short r.description in
    omega (arith, a, b, c, d, e, user, description)

pub line_short : (l : LogLine) → length l.user ≤ 65535 → length l.description ≤ 65535 → length (line_text l) ≤ 140000
line_short l user description =
    let a = tuple_length (id_text l.tid ∷ bytes_text l.user ∷ bytes_text l.description ∷ []) in
    let b = id_length l.tid in
    let c = bytes_short l.user in
    let d = bytes_short l.description in
    omega (arith, a, b, c, d, user, description)

any_id : (n : ℕ) → Unit {0} → length (id_text n) ≤ 10
any_id n is = let a = id_length n in omega (arith, a)

all_any : (numbers : List ℕ) → AllByRecursion (λ n. Unit {0}) numbers
all_any [] = tt
all_any (n ∷ numbers) = (tt, all_any numbers)

pub ids_short : (numbers : List ℕ) → length (list_of id_text numbers) ≤ 10 * length numbers + 3
ids_short numbers =
    let a = list_length (map id_text numbers) in
    let b = total_short id_text (λ n. Unit {0}) 10 any_id numbers (all_any numbers) in
    omega (arith, a, b)

pub commit_short : (c : NewsCommit) → IsShortCommit c → length (commit_text c) ≤ 2 ^ 44
commit_short c few =
    let a = tuple_length (id_text c.tid ∷ list_of id_text c.oids ∷ []) in
    let b = id_length c.tid in
    let d = ids_short c.oids in
    omega (arith, a, b, d, few)

-- ---- refusals

why_length : (w : Why) → length (why_name w) ≤ 20
why_length why.NoRule = omega arith
why_length why.Gone = omega arith
why_length why.NoOld = omega arith
why_length why.Unreadable = omega arith
why_length why.NotEmbedded = omega arith
why_length why.Link = omega arith
why_length why.EmptySide = omega arith
why_length (why.Key spelling) = omega arith
why_length why.FirstKey = omega arith
why_length why.Overflow = omega arith

why_rest : (w : Why) → IsShortWhy w → total (why_fields w) ≤ 2 ^ 40
why_rest (why.Key spelling) few = omega (arith, few)
why_rest _ few = omega arith

refusal_length : (r : Refusal) → length (refusal_name r) ≤ 20
refusal_length refusals.TidsSpent = omega arith
refusal_length refusals.StoreFault = omega arith
refusal_length (refusals.Conflict oid base current reason) = omega arith
refusal_length (refusals.ReadConflict oid base current) = omega arith
refusal_length (refusals.TooLong n) = omega arith
refusal_length (refusals.UndoUnknown tid) = omega arith
refusal_length (refusals.UndoPacked tid) = omega arith
refusal_length (refusals.UndoConflict oid later) = omega arith
refusal_length (refusals.Overtaken oid tid) = omega arith
refusal_length (refusals.Unreadable oid tid) = omega arith
refusal_length (refusals.PackedAlready packed) = omega arith
refusal_length (refusals.Missing oid packed) = omega arith
refusal_length refusals.NoTransaction = omega arith
refusal_length refusals.InTransaction = omega arith
refusal_length refusals.NotVoted = omega arith
refusal_length refusals.Voted = omega arith
refusal_length (refusals.Busy holder) = omega arith
refusal_length (refusals.PackRunning session) = omega arith
refusal_length refusals.OidsSpent = omega arith
refusal_length (refusals.JournalFull count) = omega arith
refusal_length (refusals.TooManySessions count) = omega arith
refusal_length refusals.NotOpen = omega arith
refusal_length (refusals.NoSavepoint number) = omega arith
refusal_length (refusals.FrameTooLong n) = omega arith
refusal_length refusals.BadMessage = omega arith
refusal_length refusals.LinkFault = omega arith
refusal_length refusals.Closed = omega arith
refusal_length (refusals.Mixed stores) = omega arith
refusal_length refusals.NoPack = omega arith
refusal_length (refusals.NotATree oid) = omega arith
refusal_length (refusals.NodeMissing oid) = omega arith
refusal_length refusals.BadKey = omega arith
refusal_length refusals.ReadFault = omega arith
refusal_length (refusals.NothingToDelete oid current) = omega arith
refusal_length (refusals.Connected session) = omega arith
refusal_length refusals.StepsSpent = omega arith
refusal_length refusals.Memory = omega arith

one_count : (n : ℕ) → total (count_text n ∷ []) ≤ 60
one_count n = let a = count_short n in omega (arith, a)

one_id : (n : ℕ) → total (id_text n ∷ []) ≤ 60
one_id n = let a = id_length n in omega (arith, a)

two_ids : (n k : ℕ) → total (id_text n ∷ id_text k ∷ []) ≤ 60
two_ids n k = let a = id_length n in let b = id_length k in omega (arith, a, b)

-- what a conflict says beside its objects
abbrev conflict_rest : Refusal → ℕ
conflict_rest (refusals.Conflict oid base current reason) = total (why_fields reason)
conflict_rest _ = 0

-- the fields of a refusal are short, but for that
fields_within : (r : Refusal) → total (refusal_fields r) ≤ conflict_rest r + 60
fields_within (refusals.Conflict oid base current reason) =
    let a = id_length oid in
    let b = id_length base in
    let c = id_length current in
    let d = name_length (why_name reason) in
    let e = why_length reason in
    omega (arith, a, b, c, d, e)
fields_within (refusals.ReadConflict oid base current) = let a = id_length oid in let b = id_length base in let c = id_length current in omega (arith, a, b, c)
fields_within (refusals.TooLong n) = one_count n
fields_within (refusals.UndoUnknown tid) = one_id tid
fields_within (refusals.UndoPacked tid) = one_id tid
fields_within (refusals.UndoConflict oid later) = two_ids oid later
fields_within (refusals.Overtaken oid tid) = two_ids oid tid
fields_within (refusals.Unreadable oid tid) = two_ids oid tid
fields_within (refusals.PackedAlready packed) = one_id packed
fields_within (refusals.Missing oid true) = let a = id_length oid in omega (arith, a)
fields_within (refusals.Missing oid false) = let a = id_length oid in omega (arith, a)
fields_within (refusals.Busy holder) = one_count holder
fields_within (refusals.PackRunning session) = one_count session
fields_within (refusals.JournalFull count) = one_count count
fields_within (refusals.TooManySessions count) = one_count count
fields_within (refusals.NoSavepoint number) = one_count number
fields_within (refusals.FrameTooLong n) = one_count n
fields_within (refusals.Mixed stores) = one_count stores
fields_within (refusals.NotATree oid) = one_id oid
fields_within (refusals.NodeMissing oid) = one_id oid
fields_within (refusals.NothingToDelete oid current) = two_ids oid current
fields_within (refusals.Connected session) = one_count session
fields_within _ = omega arith

rest_short : (r : Refusal) → IsShortRefusal r → conflict_rest r ≤ 2 ^ 40
rest_short (refusals.Conflict oid base current reason) few = why_rest reason few
rest_short _ few = omega arith

pub refusal_short : (r : Refusal) → IsShortRefusal r → length (refusal_text r) ≤ 2 ^ 42
refusal_short r few =
    let a = tuple_length (name_text (refusal_name r) ∷ refusal_fields r) in
    let b = name_length (refusal_name r) in
    let c = refusal_length r in
    let d = fields_within r in
    let e = rest_short r few in
    omega (arith, a, b, c, d, e)

-- ---- payloads

kind_length : (answer : Answer) → length (kind_of answer) ≤ 6
kind_length (answers.Refused refusal) = omega arith
kind_length _ = omega arith

-- a value of so many bytes is part of a payload whose length a number of 64 bits can say
pub counted_short : (answer : Answer) → length (value_of answer) ≤ 2 ^ 63 → counted_length answer < 2 ^ 64
counted_short answer short =
    let a = payload_length (2 ^ 31 - 1) 0 (kind_of answer) (value_of answer) in
    let b = count_short (2 ^ 31 - 1) in
    let c = zero_length in
    let d = name_length (kind_of answer) in
    let e = kind_length answer in
    omega (arith, a, b, c, d, e, short)

-- a refusal that is no conflict
abbrev pub IsNoConflict : Refusal → Type 0
IsNoConflict (refusals.Conflict oid base current reason) = ⊥
IsNoConflict _ = Unit {0}

no_rest : (r : Refusal) → IsNoConflict r → conflict_rest r ≡ 0
no_rest (refusals.Conflict oid base current reason) is = absurd is
no_rest _ is = refl

-- it fits a frame
pub refusal_fits : (r : Refusal) → IsNoConflict r → counted_length (answers.Refused r) ≤ FRAME_LIMIT
refusal_fits r is =
    let a = tuple_length (name_text (refusal_name r) ∷ refusal_fields r) in
    let b = name_length (refusal_name r) in
    let c = refusal_length r in
    let d = fields_within r in
    let e = no_rest r is in
    let f = payload_length (2 ^ 31 - 1) 0 (codes ".error") (refusal_text r) in
    let g = count_short (2 ^ 31 - 1) in
    let h = zero_length in
    let i = name_length (codes ".error") in
    omega (arith, a, b, c, d, e, f, g, h, i)
