-- Answers that are lists are read as they were written.
use Rattle.std.proofs.Common.{◌≡◌, ◌≢◌, ℕ, ◌^◌, ◌<◌, Bool, true, ◌&&◌, ◌||◌, eqb, List, [], ◌∷◌, ◌++◌, Option, Some, None, length, map, refl, sym, ap, ◌∙◌, inl, inr, append_assoc, arith}
use Rattle.std.specs.List.{AllByRecursion, list_all}
use Rattle.std.proofs.lemmas.Bool.{and_parts, ne_eqb}
use Rattle.zb_model.specs.declared.lists.LogLine.{LogLine}
use Rattle.zb_model.specs.declared.lists.Revision.{Revision}
use Rattle.zb_model.specs.declared.news.NewsCommit.{NewsCommit}
use Rattle.zeo_messages.specs.declared.answer.Answer.TheVariants as answers
use Rattle.zeo_values.specs.Values.{bytes_text, byte_in, count_text, ended, id_text, list_of, maybe_text, IsId, AreIds}
use Rattle.zeo_messages.specs.Calls.{is_filled, is_short}
use Rattle.zeo_messages.specs.Answers.{HoldsCommit, HoldsLine, HoldsRevision, IsMaybeId, commit_text, fits_line, fits_revision, line_text, revision_text}
use Rattle.zeo_values.specs.Leaves.{behind, behind_bytes, behind_count, behind_maybe_count, bytes_in, count_in, ids_at, ids_in, items_in, maybe_count_in}
use Rattle.zeo_reading.specs.Loose.{behind_commit, behind_line, behind_revision, commit_in, commits_at, is_line_list, line_in, lines_at, lines_or_oids, list_by, reply_in, revision_in, revisions_at}
use Rattle.zeo_values.specs.ValueLaws.{behind_bytes_again, bytes_again, bytes_head, count_again, id_again, if_false}
use Rattle.zeo_reading.proofs.AnswerRows.{count_not}
use Rattle.zeo_reading.proofs.CallRows.{short_long}
use Rattle.zeo_values.specs.ListLaws.{IsReader, behind_ids_again, ended_more, enough, ids_again, ids_at_again, many, read_again}

-- ---- oids

pub oids_reply : (ids tail : List ℕ) → AreIds ids → is_filled ids ≡ true → reply_in (list_of id_text ids ++ 0x74 ∷ tail) ≡ answers.Oids ids
unfolding items_in id_text behind behind_bytes
oids_reply [] tail all f = absurd (cc)
oids_reply (a ∷ []) tail all f = ap (λ (x : List ℕ). answers.Oids x) (ids_at_again (a ∷ []) 0x61 (0x74 ∷ tail) all (omega arith))
oids_reply (a ∷ (b ∷ [])) tail all f = ap (λ (x : List ℕ). answers.Oids x) (ids_at_again (a ∷ (b ∷ [])) 0x65 (0x74 ∷ tail) all (omega arith))
oids_reply (a ∷ (b ∷ (c ∷ []))) tail all f = ap (λ (x : List ℕ). answers.Oids x) (ids_at_again (a ∷ (b ∷ (c ∷ []))) 0x65 (0x74 ∷ tail) all (omega arith))
oids_reply (a ∷ (b ∷ (c ∷ (d ∷ ids)))) tail all f =
    ap (λ (t : List ℕ). reply_in (t ++ 0x74 ∷ tail)) (many id_text a b (c ∷ (d ∷ ids)))
    ∙ ap (λ (x : List ℕ). answers.Oids (ids_at x)) (ended_more (map id_text (a ∷ (b ∷ (c ∷ (d ∷ ids))))) (0x65 ∷ []) (0x74 ∷ tail))
    ∙ ap (λ (x : List ℕ). answers.Oids x) (ids_at_again (a ∷ (b ∷ (c ∷ (d ∷ ids)))) 0x65 (0x74 ∷ tail) all (omega arith))

-- ---- transactions of a log

abbrev IsLine : LogLine → Type 0
IsLine l = IsId l.tid × (length l.user < 2 ^ 32) × (length l.description < 2 ^ 32)

line_assoc : (l : LogLine) (more : List ℕ) → line_text l ++ more ≡ id_text l.tid ++ (bytes_text l.user ++ (bytes_text l.description ++ 0x87 ∷ more))
line_assoc l more =
    append_assoc (id_text l.tid) (bytes_text l.user ++ (bytes_text l.description ++ 0x87 ∷ [])) more
    ∙ ap (λ (x : List ℕ). id_text l.tid ++ x) (append_assoc (bytes_text l.user) (bytes_text l.description ++ 0x87 ∷ []) more
    ∙ ap (λ (x : List ℕ). bytes_text l.user ++ x) (append_assoc (bytes_text l.description) (0x87 ∷ []) more))

abbrev line_of : ℕ → List ℕ → List ℕ → LogLine
line_of tid user description = record { tid = tid; user = user; description = description }

line_again : (l : LogLine) (more : List ℕ) → IsLine l → line_in (line_text l ++ more) ≡ l
unfolding behind id_text
line_again l more h =
    let last : List ℕ = bytes_text l.description ++ 0x87 ∷ more in
    let rest : List ℕ = bytes_text l.user ++ last in
    ap line_in (line_assoc l more)
    ∙ ap (λ (x : ℕ). line_of x (bytes_in rest) (bytes_in (behind_bytes rest))) (id_again l.tid rest h.0)
    ∙ ap (λ (x : List ℕ). line_of l.tid x (bytes_in (behind_bytes rest))) (bytes_again l.user last h.1)
    ∙ ap (λ (x : List ℕ). line_of l.tid l.user x) (ap bytes_in (behind_bytes_again l.user last h.1) ∙ bytes_again l.description (0x87 ∷ more) h.2)

behind_line_again : (l : LogLine) (more : List ℕ) → IsLine l → behind_line (line_text l ++ more) ≡ more
unfolding behind id_text
behind_line_again l more h =
    let last : List ℕ = bytes_text l.description ++ 0x87 ∷ more in
    ap behind_line (line_assoc l more)
    ∙ ap (λ (x : List ℕ). behind 1 (behind_bytes x)) (behind_bytes_again l.user last h.1)
    ∙ ap (λ (x : List ℕ). behind 1 x) (behind_bytes_again l.description (0x87 ∷ more) h.2)

line_head : (l : LogLine) (more : List ℕ) → byte_in 0 (line_text l ++ more) ≡ 0x43
unfolding id_text
line_head l more = refl

line_some : (l : LogLine) → 0 < length (line_text l)
unfolding id_text
line_some l = omega arith

line_reader : IsReader IsLine 0x43 line_text line_in behind_line
line_reader = record { head = line_head; reads = line_again; leaves = behind_line_again; some = line_some }

lines_again : (lines : List LogLine) (x : ℕ) (more : List ℕ) → AllByRecursion IsLine lines → x ≢ 0x43 → lines_at (ended (map line_text lines) (x ∷ more)) ≡ lines
lines_again lines x more all ne =
    read_again IsLine 0x43 line_text line_in behind_line lines (length (ended (map line_text lines) (x ∷ more))) x more line_reader all ne
    (enough line_text lines (x ∷ more) line_some)

-- behind the number of a log line stand two values of bytes and the end of a tuple
line_list : (l : LogLine) (more : List ℕ) → IsLine l → is_line_list (bytes_text l.user ++ (bytes_text l.description ++ 0x87 ∷ more)) ≡ true
line_list l more h =
    let last : List ℕ = bytes_text l.description ++ 0x87 ∷ more in
    let rest : List ℕ = bytes_text l.user ++ last in
    let first = behind_bytes_again l.user last h.1 in
    let second : behind_bytes (behind_bytes rest) ≡ 0x87 ∷ more = ap behind_bytes first ∙ behind_bytes_again l.description (0x87 ∷ more) h.2 in
    let head : (eqb (byte_in 0 last) 0x43 || eqb (byte_in 0 last) 0x42) ≡ true =
    elim (bytes_head l.description (0x87 ∷ more)) [ inl e ↦ rw e refl | inr e ↦ rw e refl ] in
    ap (λ (x : List ℕ). (eqb (byte_in 0 x) 0x43 || eqb (byte_in 0 x) 0x42) && eqb (byte_in 0 (behind_bytes (behind_bytes rest))) 0x87) first
    ∙ ap (λ (x : List ℕ). (eqb (byte_in 0 last) 0x43 || eqb (byte_in 0 last) 0x42) && eqb (byte_in 0 x) 0x87) second
    ∙ ap (λ (x : Bool). x && true) head

line_by : (l : LogLine) (more bytes : List ℕ) → IsLine l → list_by (byte_in 10 (line_text l ++ more)) bytes (line_text l ++ more) ≡ answers.LogLines (lines_at (line_text l ++ more))
unfolding behind id_text
line_by l more bytes h =
    let rest : List ℕ = bytes_text l.user ++ (bytes_text l.description ++ 0x87 ∷ more) in
    let items : List ℕ = id_text l.tid ++ rest in
    let all = line_assoc l more in
    let there : list_by (byte_in 0 rest) bytes items ≡ answers.LogLines (lines_at items) =
    elim (bytes_head l.user (bytes_text l.description ++ 0x87 ∷ more)) [
      | inl e ↦ ap (λ (n : ℕ). list_by n bytes items) e ∙ ap (λ (b : Bool). lines_or_oids b items) (line_list l more h)
      | inr e ↦ ap (λ (n : ℕ). list_by n bytes items) e
    ] in
    ap (λ (x : List ℕ). list_by (byte_in 10 x) bytes x) all ∙ there ∙ ap (λ (x : List ℕ). answers.LogLines (lines_at x)) (sym all)

all_lines : (lines : List LogLine) → AllByRecursion HoldsLine lines → list_all fits_line lines ≡ true → AllByRecursion IsLine lines
all_lines [] h f = tt
all_lines (l ∷ lines) h f =
    let parts = and_parts (fits_line l) (list_all fits_line lines) f in
    let texts = and_parts (is_short l.user) (is_short l.description) parts.0 in
    ((h.0, short_long l.user texts.0, short_long l.description texts.1), all_lines lines h.1 parts.1)

pub lines_reply : (lines : List LogLine) (tail : List ℕ) → AllByRecursion HoldsLine lines → is_filled lines && list_all fits_line lines ≡ true
    → reply_in (list_of line_text lines ++ 0x74 ∷ tail) ≡ answers.LogLines lines
unfolding items_in id_text
lines_reply [] tail h f = absurd (cc)
lines_reply (l ∷ []) tail h f =
    let all = all_lines (l ∷ []) h f in
    let whole : List ℕ = list_of line_text (l ∷ []) ++ 0x74 ∷ tail in
    ap (λ (x : List ℕ). list_by (byte_in 10 x) whole x) (append_assoc (line_text l) (0x61 ∷ []) (0x74 ∷ tail))
    ∙ line_by l (0x61 ∷ 0x74 ∷ tail) whole all.0
    ∙ ap (λ xs. answers.LogLines xs) (lines_again (l ∷ []) 0x61 (0x74 ∷ tail) all (omega arith))
lines_reply (l ∷ (m ∷ lines)) tail h f =
    let all = all_lines (l ∷ (m ∷ lines)) h f in
    let whole : List ℕ = (0x5d ∷ 0x28 ∷ ended (map line_text (l ∷ (m ∷ lines))) (0x65 ∷ [])) ++ 0x74 ∷ tail in
    ap (λ (t : List ℕ). reply_in (t ++ 0x74 ∷ tail)) (many line_text l m lines)
    ∙ ap (λ (x : List ℕ). list_by (byte_in 10 x) whole x) (ended_more (map line_text (l ∷ (m ∷ lines))) (0x65 ∷ []) (0x74 ∷ tail))
    ∙ line_by l (ended (map line_text (m ∷ lines)) (0x65 ∷ 0x74 ∷ tail)) whole all.0
    ∙ ap (λ xs. answers.LogLines xs) (lines_again (l ∷ (m ∷ lines)) 0x65 (0x74 ∷ tail) all (omega arith))

-- ---- commits

commit_assoc : (c : NewsCommit) (more : List ℕ) → commit_text c ++ more ≡ id_text c.tid ++ (list_of id_text c.oids ++ 0x86 ∷ more)
commit_assoc c more =
    append_assoc (id_text c.tid) (list_of id_text c.oids ++ 0x86 ∷ []) more
    ∙ ap (λ (x : List ℕ). id_text c.tid ++ x) (append_assoc (list_of id_text c.oids) (0x86 ∷ []) more)

abbrev commit_of : ℕ → List ℕ → NewsCommit
commit_of tid oids = record { tid = tid; oids = oids }

commit_again : (c : NewsCommit) (more : List ℕ) → HoldsCommit c → commit_in (commit_text c ++ more) ≡ c
unfolding behind id_text
commit_again c more h =
    let rest : List ℕ = list_of id_text c.oids ++ 0x86 ∷ more in
    ap commit_in (commit_assoc c more)
    ∙ ap (λ (x : ℕ). commit_of x (ids_in rest)) (id_again c.tid rest h.0)
    ∙ ap (λ (x : List ℕ). commit_of c.tid x) (ids_again c.oids 0x86 more h.1 (omega arith) (omega arith))

behind_commit_again : (c : NewsCommit) (more : List ℕ) → HoldsCommit c → behind_commit (commit_text c ++ more) ≡ more
unfolding behind id_text
behind_commit_again c more h =
    ap behind_commit (commit_assoc c more) ∙ ap (λ (x : List ℕ). behind 1 x) (behind_ids_again c.oids 0x86 more (omega arith) (omega arith))

commit_head : (c : NewsCommit) (more : List ℕ) → byte_in 0 (commit_text c ++ more) ≡ 0x43
unfolding id_text
commit_head c more = refl

commit_some : (c : NewsCommit) → 0 < length (commit_text c)
unfolding id_text
commit_some c = omega arith

commit_reader : IsReader HoldsCommit 0x43 commit_text commit_in behind_commit
commit_reader = record { head = commit_head; reads = commit_again; leaves = behind_commit_again; some = commit_some }

commits_again : (commits : List NewsCommit) (x : ℕ) (more : List ℕ) → AllByRecursion HoldsCommit commits → x ≢ 0x43 → commits_at (ended (map commit_text commits) (x ∷ more)) ≡ commits
commits_again commits x more all ne =
    read_again HoldsCommit 0x43 commit_text commit_in behind_commit commits (length (ended (map commit_text commits) (x ∷ more))) x more commit_reader all ne
    (enough commit_text commits (x ∷ more) commit_some)

pub commits_reply : (commits : List NewsCommit) (tail : List ℕ) → AllByRecursion HoldsCommit commits → is_filled commits ≡ true
    → reply_in (list_of commit_text commits ++ 0x74 ∷ tail) ≡ answers.Commits commits
unfolding items_in id_text
commits_reply [] tail h f = absurd (cc)
commits_reply (c ∷ []) tail h f =
    ap (λ (x : List ℕ). answers.Commits (commits_at x)) (append_assoc (commit_text c) (0x61 ∷ []) (0x74 ∷ tail))
    ∙ ap (λ xs. answers.Commits xs) (commits_again (c ∷ []) 0x61 (0x74 ∷ tail) h (omega arith))
commits_reply (c ∷ (d ∷ commits)) tail h f =
    ap (λ (t : List ℕ). reply_in (t ++ 0x74 ∷ tail)) (many commit_text c d commits)
    ∙ ap (λ (x : List ℕ). answers.Commits (commits_at x)) (ended_more (map commit_text (c ∷ (d ∷ commits))) (0x65 ∷ []) (0x74 ∷ tail))
    ∙ ap (λ xs. answers.Commits xs) (commits_again (c ∷ (d ∷ commits)) 0x65 (0x74 ∷ tail) h (omega arith))

-- ---- revisions

abbrev IsRevision : Revision → Type 0
IsRevision r = HoldsRevision r × (length r.user < 2 ^ 32) × (length r.description < 2 ^ 32)

size_again : (size : Option ℕ) (rest : List ℕ) → IsMaybeId size → maybe_count_in (maybe_text count_text size ++ rest) ≡ size
size_again None rest h = refl
size_again (Some n) rest h =
    if_false (eqb (byte_in 0 (count_text n ++ rest)) 0x4e) None (Some (count_in (count_text n ++ rest)))
    (ne_eqb (byte_in 0 (count_text n ++ rest)) 0x4e (count_not n rest 0x4e h (omega arith) (omega arith) (omega arith) (omega arith)))
    ∙ ap (λ (x : ℕ). Some x) (count_again n rest h).number

behind_size : (size : Option ℕ) (rest : List ℕ) → IsMaybeId size → behind_maybe_count (maybe_text count_text size ++ rest) ≡ rest
unfolding behind
behind_size None rest h = refl
behind_size (Some n) rest h =
    if_false (eqb (byte_in 0 (count_text n ++ rest)) 0x4e) (behind 1 (count_text n ++ rest)) (behind_count (count_text n ++ rest))
    (ne_eqb (byte_in 0 (count_text n ++ rest)) 0x4e (count_not n rest 0x4e h (omega arith) (omega arith) (omega arith) (omega arith)))
    ∙ (count_again n rest h).left

revision_assoc : (r : Revision) (more : List ℕ)
    → revision_text r ++ more ≡ 0x28 ∷ (id_text r.tid ++ (maybe_text count_text r.size ++ (bytes_text r.user ++ (bytes_text r.description ++ 0x74 ∷ more))))
revision_assoc r more =
    ap (λ (x : List ℕ). 0x28 ∷ x) (append_assoc (id_text r.tid) (maybe_text count_text r.size ++ (bytes_text r.user ++ (bytes_text r.description ++ 0x74 ∷ []))) more
    ∙ ap (λ (x : List ℕ). id_text r.tid ++ x) (append_assoc (maybe_text count_text r.size) (bytes_text r.user ++ (bytes_text r.description ++ 0x74 ∷ [])) more
    ∙ ap (λ (x : List ℕ). maybe_text count_text r.size ++ x) (append_assoc (bytes_text r.user) (bytes_text r.description ++ 0x74 ∷ []) more
    ∙ ap (λ (x : List ℕ). bytes_text r.user ++ x) (append_assoc (bytes_text r.description) (0x74 ∷ []) more))))

abbrev revision_of : ℕ → Option ℕ → List ℕ → List ℕ → Revision
revision_of tid size user description = record { tid = tid; size = size; user = user; description = description }

one_revision : (r : Revision) (more : List ℕ) → IsRevision r → revision_in (revision_text r ++ more) ≡ r
unfolding behind id_text
one_revision r more h =
    let last : List ℕ = bytes_text r.description ++ 0x74 ∷ more in
    let user : List ℕ = bytes_text r.user ++ last in
    let rest : List ℕ = maybe_text count_text r.size ++ user in
    let left = behind_size r.size user h.0.1 in
    ap revision_in (revision_assoc r more)
    ∙ ap (λ (x : ℕ). revision_of x (maybe_count_in rest) (bytes_in (behind_maybe_count rest)) (bytes_in (behind_bytes (behind_maybe_count rest)))) (id_again r.tid rest h.0.0)
    ∙ ap (λ (x : Option ℕ). revision_of r.tid x (bytes_in (behind_maybe_count rest)) (bytes_in (behind_bytes (behind_maybe_count rest)))) (size_again r.size user h.0.1)
    ∙ ap (λ (x : List ℕ). revision_of r.tid r.size (bytes_in x) (bytes_in (behind_bytes x))) left
    ∙ ap (λ (x : List ℕ). revision_of r.tid r.size x (bytes_in (behind_bytes user))) (bytes_again r.user last h.1)
    ∙ ap (λ (x : List ℕ). revision_of r.tid r.size r.user x) (ap bytes_in (behind_bytes_again r.user last h.1) ∙ bytes_again r.description (0x74 ∷ more) h.2)

behind_revision_again : (r : Revision) (more : List ℕ) → IsRevision r → behind_revision (revision_text r ++ more) ≡ more
unfolding behind id_text
behind_revision_again r more h =
    let last : List ℕ = bytes_text r.description ++ 0x74 ∷ more in
    let user : List ℕ = bytes_text r.user ++ last in
    ap behind_revision (revision_assoc r more)
    ∙ ap (λ (x : List ℕ). behind 1 (behind_bytes (behind_bytes x))) (behind_size r.size user h.0.1)
    ∙ ap (λ (x : List ℕ). behind 1 (behind_bytes x)) (behind_bytes_again r.user last h.1)
    ∙ ap (λ (x : List ℕ). behind 1 x) (behind_bytes_again r.description (0x74 ∷ more) h.2)

revision_head : (r : Revision) (more : List ℕ) → byte_in 0 (revision_text r ++ more) ≡ 0x28
revision_head r more = refl

revision_some : (r : Revision) → 0 < length (revision_text r)
revision_some r = omega arith

revision_reader : IsReader IsRevision 0x28 revision_text revision_in behind_revision
revision_reader = record { head = revision_head; reads = one_revision; leaves = behind_revision_again; some = revision_some }

all_again : (revisions : List Revision) (x : ℕ) (more : List ℕ) → AllByRecursion IsRevision revisions → x ≢ 0x28 → revisions_at (ended (map revision_text revisions) (x ∷ more)) ≡ revisions
all_again revisions x more all ne =
    read_again IsRevision 0x28 revision_text revision_in behind_revision revisions (length (ended (map revision_text revisions) (x ∷ more))) x more revision_reader all ne
    (enough revision_text revisions (x ∷ more) revision_some)

all_revisions : (revisions : List Revision) → AllByRecursion HoldsRevision revisions → list_all fits_revision revisions ≡ true → AllByRecursion IsRevision revisions
all_revisions [] h f = tt
all_revisions (r ∷ revisions) h f =
    let parts = and_parts (fits_revision r) (list_all fits_revision revisions) f in
    let texts = and_parts (is_short r.user) (is_short r.description) parts.0 in
    ((h.0, short_long r.user texts.0, short_long r.description texts.1), all_revisions revisions h.1 parts.1)

-- a size, or None, stands behind the number of a single revision
size_by : (size : Option ℕ) (rest bytes items : List ℕ) → IsMaybeId size
    → list_by (byte_in 0 (maybe_text count_text size ++ rest)) bytes items ≡ answers.Revisions (revisions_at (behind 1 bytes))
size_by None rest bytes items h = refl
size_by (Some n) rest bytes items h =
    elim ((count_again n rest h).head) [
      | inl e ↦ ap (λ (k : ℕ). list_by k bytes items) e
      | inr more ↦ elim more [
        | inl e ↦ ap (λ (k : ℕ). list_by k bytes items) e
        | inr others ↦ elim others [ inl e ↦ ap (λ (k : ℕ). list_by k bytes items) e | inr e ↦ ap (λ (k : ℕ). list_by k bytes items) e ]
      ]
    ]

pub revisions_reply : (revisions : List Revision) (tail : List ℕ) → AllByRecursion HoldsRevision revisions → is_filled revisions && list_all fits_revision revisions ≡ true
    → reply_in (list_of revision_text revisions ++ 0x74 ∷ tail) ≡ answers.Revisions revisions
unfolding items_in behind id_text
revisions_reply [] tail h f = absurd (cc)
revisions_reply (r ∷ []) tail h f =
    let all = all_revisions (r ∷ []) h f in
    let end : List ℕ = bytes_text r.user ++ (bytes_text r.description ++ 0x74 ∷ []) in
    let whole : List ℕ = list_of revision_text (r ∷ []) ++ 0x74 ∷ tail in
    let items : List ℕ = items_in whole in
    let size : byte_in 10 items ≡ byte_in 0 (maybe_text count_text r.size ++ ((end ++ 0x61 ∷ []) ++ 0x74 ∷ tail)) =
    ap (λ (x : List ℕ). byte_in 0 x) (ap (λ (x : List ℕ). x ++ 0x74 ∷ tail) (append_assoc (maybe_text count_text r.size) end (0x61 ∷ []))
    ∙ append_assoc (maybe_text count_text r.size) (end ++ 0x61 ∷ []) (0x74 ∷ tail)) in
    ap (λ (n : ℕ). list_by n whole items) size
    ∙ size_by r.size ((end ++ 0x61 ∷ []) ++ 0x74 ∷ tail) whole items h.0.1
    ∙ ap (λ (x : List ℕ). answers.Revisions (revisions_at x)) (append_assoc (revision_text r) (0x61 ∷ []) (0x74 ∷ tail))
    ∙ ap (λ xs. answers.Revisions xs) (all_again (r ∷ []) 0x61 (0x74 ∷ tail) all (omega arith))
revisions_reply (r ∷ (s ∷ revisions)) tail h f =
    let all = all_revisions (r ∷ (s ∷ revisions)) h f in
    ap (λ (t : List ℕ). reply_in (t ++ 0x74 ∷ tail)) (many revision_text r s revisions)
    ∙ ap (λ (x : List ℕ). answers.Revisions (revisions_at x)) (ended_more (map revision_text (r ∷ (s ∷ revisions))) (0x65 ∷ []) (0x74 ∷ tail))
    ∙ ap (λ xs. answers.Revisions xs) (all_again (r ∷ (s ∷ revisions)) 0x65 (0x74 ∷ tail) all (omega arith))
