-- Messages that come whole for a call, the news among them.
use Rattle.std.proofs.Common.{◌≡◌, ◌⊎◌, inl, inr, ℕ, ◌-◌, Bool, true, false, cond, List, [], ◌∷◌, ◌++◌, map, Option, Some, None, Result, Ok, Err, length, length-append, refl, sym, subst, arith}
use Rattle.std.specs.List.{AllByRecursion}
use Rattle.std.proofs.lemmas.Bool.{leb-true}
use Rattle.zb_model.specs.declared.news.News.{News}
use Rattle.zb_model.specs.declared.news.NewsCommit.{NewsCommit}
use Rattle.zeo_frames.specs.declared.limit.TheConstants.{FRAME_LIMIT}
use Rattle.zeo_frames.specs.Frames.{IsWithinLimit, frames}
use Rattle.zeo_messages.specs.declared.answer.Answer.{Answer}
use Rattle.zeo_messages.specs.declared.call.Call.{Call}
use Rattle.zeo_messages.specs.declared.message.Message.{Message}
use Rattle.zeo_messages.specs.declared.message.Message.TheVariants.{Answered, Told}
use Rattle.zeo_messages.specs.declared.message.Notice.{Notice}
use Rattle.zeo_messages.specs.declared.message.Notice.TheVariants.{Invalidate, Forget, Packed}
use Rattle.zeo_messages.specs.LengthLaws.{payload_length}
use Rattle.zeo_messages.specs.Messages.{HoldsNotice, notice_fields, notice_name, payload_of}
use Rattle.zeo_values.specs.LengthLaws.{count_short, id_length, name_length}
use Rattle.zeo_values.specs.Values.{id_text, tuple_text}
use Rattle.zeo_news.specs.Notices.{commit_notice, fits_frame, notice_payload, notices_of}
use Rattle.zeo_desk.specs.Desks.{DeskState}
use Rattle.zeo_client.specs.declared.error.ClientError.{ClientError}
use Rattle.zeo_client.specs.declared.error.ClientError.TheVariants as error
use Rattle.zeo_client.specs.Hearing.{Held, IsAnswerHeard}
use Rattle.zeo_client.specs.SyncLaws.{HearsAll}
use Rattle.zeo_client.specs.Taking.{ClientState, IsFed, IsFedIf}
use Rattle.zeo_client.specs.Whole.{AreCutShort, AreHeard, HearsMessages, MayBeSent, WholePiecesAreHeard}
use Rattle.remote_loads.specs.Standing.{IsAtRest, IsWayEnd}
use Rattle.remote_loads.specs.Talking.{answer_in}

-- ---- how long notices are

forget_within : (front : ℕ) → IsWithinLimit (payload_of (Told (Forget front)))
forget_within front =
    let a = payload_length 0 1 (notice_name (Forget front)) (tuple_text (notice_fields (Forget front))) in
    let b = count_short 0 in
    let c = count_short 1 in
    let d = name_length (notice_name (Forget front)) in
    let e = length-append (id_text front) (0x85 ∷ []) in
    let f = id_length front in
    omega (arith, a, b, c, d, e, f)

packed_within : (tid : ℕ) → IsWithinLimit (payload_of (Told (Packed tid)))
packed_within tid =
    let a = payload_length 0 1 (notice_name (Packed tid)) (tuple_text (notice_fields (Packed tid))) in
    let b = count_short 0 in
    let c = count_short 1 in
    let d = name_length (notice_name (Packed tid)) in
    let e = length-append (id_text tid) (0x85 ∷ []) in
    let f = id_length tid in
    omega (arith, a, b, c, d, e, f)

fits_within : (notice : Notice) → fits_frame notice ≡ true → IsWithinLimit (payload_of (Told notice))
unfolding notice_payload
fits_within notice fits = leb-true (length (notice_payload notice)) FRAME_LIMIT fits

commit_within : (front : ℕ) (c : NewsCommit) → IsWithinLimit (payload_of (Told (commit_notice front c)))
commit_within front c = by_fits (fits_frame (Invalidate c.tid c.oids)) refl
  where
    by_fits : (b : Bool) → fits_frame (Invalidate c.tid c.oids) ≡ b → IsWithinLimit (payload_of (Told (cond b (Invalidate c.tid c.oids) (Forget front))))
    by_fits true fits = fits_within (Invalidate c.tid c.oids) fits
    by_fits false fits = forget_within front

abbrev AreWithin : List Notice → Type 0
AreWithin notices = AllByRecursion (λ n. IsWithinLimit (payload_of (Told n))) notices

commits_within : (front : ℕ) (commits : List NewsCommit) → AreWithin (map (commit_notice front) commits)
commits_within front [] = tt
commits_within front (c ∷ commits) = (commit_within front c, commits_within front commits)

notices_within : (front : ℕ) (news : News) → AreWithin (notices_of front news)
notices_within front news = by_forget news.forget
  where
    by_packed : (p : Bool) → AreWithin (cond p (Packed (front - 1) ∷ []) [] ++ map (commit_notice front) news.commits)
    by_packed true = (packed_within (front - 1), commits_within front news.commits)
    by_packed false = commits_within front news.commits

    by_forget : (f : Bool) → AreWithin (cond f (Forget front ∷ []) (cond news.packed (Packed (front - 1) ∷ []) []) ++ map (commit_notice front) news.commits)
    by_forget true = (forget_within front, commits_within front news.commits)
    by_forget false = by_packed news.packed

-- ---- the notices before an answer

notice_sent : (number : ℕ) (last : Option Call) (notice : Notice) → HoldsNotice notice → IsWithinLimit (payload_of (Told notice)) → MayBeSent number last (Told notice)
notice_sent number last notice held within = record { held = held; row = refl; may = refl; within = within }

told_sent : (number : ℕ) (last : Option Call) (notices : List Notice) (answer : Message) → AllByRecursion HoldsNotice notices → AreWithin notices → MayBeSent number last answer
    → AllByRecursion (MayBeSent number last) (map (λ n. Told n) notices ++ answer ∷ [])
told_sent number last [] answer held within sent = (sent, tt)
told_sent number last (n ∷ notices) answer held within sent = (notice_sent number last n held.0 within.0, told_sent number last notices answer held.1 within.1 sent)

pub news_sent : (number : ℕ) (last : Option Call) (front : ℕ) (news : News) (answer : Message) → AllByRecursion HoldsNotice (notices_of front news) → MayBeSent number last answer
    → AllByRecursion (MayBeSent number last) (map (λ n. Told n) (notices_of front news) ++ answer ∷ [])
news_sent number last front news answer held sent = told_sent number last (notices_of front news) answer held (notices_within front news) sent

-- they are heard, and then it
pub news_heard : (last : Option Call) (notices : List Notice) (number : ℕ) (answer : Answer) (old new : Held) → HearsMessages last (map (λ n. Told n) notices ++ Answered number answer ∷ []) old new
    → (mid : Held) × HearsAll notices old mid × IsAnswerHeard last answer mid new
news_heard last [] number answer old new heard = (old, refl, subst (λ (h : Held). IsAnswerHeard last answer old h) (sym heard.2) heard.1)
news_heard last (n ∷ notices) number answer old new heard =
    let rest = news_heard last notices number answer heard.0 new heard.2 in
    (rest.0, (heard.0, heard.1, rest.1), rest.2)

pub answer_behind : (notices : List Notice) (number : ℕ) (answer : Answer) → answer_in (map (λ n. Told n) notices ++ Answered number answer ∷ []) ≡ Some answer
answer_behind [] number answer = refl
answer_behind (n ∷ notices) number answer = answer_behind notices number answer

-- ---- messages that come

-- there was no memory, or all of them were given and heard
abbrev pub AllCame : List Message → ClientState → DeskState → Result (List Message) ClientError → ClientState → Type 0
AllCame messages mid left result new = (result ≡ Err error.Memory) ⊎ ((result ≡ Ok messages) × HearsMessages mid.last messages mid.held new.held × IsAtRest left new)

pub all_come : WholePiecesAreHeard → (messages : List Message) (mid new : ClientState) (d left : DeskState) (result : Result (List Message) ClientError) (piece : List ℕ) → IsAtRest d mid → left.registered ≡ true
    → AllByRecursion (MayBeSent mid.number mid.last) messages → piece ≡ frames (map payload_of messages) → IsFed mid piece result new → AllCame messages mid left result new
all_come whole messages mid new d left result piece rest registered sent is fed = by_ended mid.ended refl rest.end fed
  where
    by_whole : AreCutShort messages mid result new ⊎ AreHeard messages mid result new → AllCame messages mid left result new
    by_whole (inl cut) = inl cut.given
    by_whole (inr all) = inr (all.given, all.heard, record { registered = registered; end = subst (λ (e : Option ClientError). IsWayEnd e) (sym all.ended) tt; reading = λ none. all.reading })

    by_ended : (e : Option ClientError) → mid.ended ≡ e → IsWayEnd e → IsFedIf mid.ended mid piece result new → AllCame messages mid left result new
    by_ended None none way got = by_whole (whole messages mid new result sent (rest.reading none) none (subst (λ (p : List ℕ). IsFed mid p result new) is got))
    by_ended (Some error.Memory) some way got = inl (subst (λ (e : Option ClientError). IsFedIf e mid piece result new) some got).0
    by_ended (Some error.BadMessage) some way got = absurd way
    by_ended (Some error.LinkFault) some way got = absurd way
    by_ended (Some error.Closed) some way got = absurd way
    by_ended (Some (error.FrameTooLong n)) some way got = absurd way
