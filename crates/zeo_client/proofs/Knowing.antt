-- The known front never falls.
use Rattle.std.proofs.Common.{◌≡◌, ℕ, ◌≤◌, max, List, [], ◌∷◌, Option, Some, None, Result, Ok, Err, refl, ap, arith}
use Rattle.zeo_frames.specs.declared.error.FrameError.{FrameError}
use Rattle.zeo_messages.specs.declared.answer.Answer.{Answer}
use Rattle.zeo_messages.specs.declared.answer.Answer.TheVariants as answers
use Rattle.zeo_messages.specs.declared.call.Call.{Call}
use Rattle.zeo_messages.specs.declared.call.Call.TheVariants as calls
use Rattle.zeo_messages.specs.declared.message.Message.{Message}
use Rattle.zeo_messages.specs.declared.message.Message.TheVariants.{Asked, Answered, Told}
use Rattle.zeo_messages.specs.declared.message.Notice.{Notice}
use Rattle.zeo_messages.specs.declared.message.Notice.TheVariants.{Invalidate, Forget, Packed}
use Rattle.zeo_serving.specs.declared.standing.Standing.{Standing}
use Rattle.zeo_client.specs.declared.error.ClientError.{ClientError}
use Rattle.zeo_client.specs.Hearing.{Held, IsAnswerHeard, IsHeard, IsNoticed, front_heard, known_told}
use Rattle.zeo_client.specs.Taking.{ClientState, IsTakenSo, Takes, TakesIfCut, bad, starved, taken, taken_all}

same_known : (old new : Held) → new ≡ old → old.standing.known ≤ new.standing.known
same_known old new same = let e : new.standing.known ≡ old.standing.known = ap (λ (h : Held). h.standing.known) same in omega (arith, e)

told_known : (notice : Notice) (known : ℕ) → known ≤ known_told notice known
told_known (Invalidate tid oids) known = omega arith
told_known (Forget front) known = omega arith
told_known (Packed tid) known = omega arith

noticed_known : (notice : Notice) (old new : Held) → IsNoticed notice old new → old.standing.known ≤ new.standing.known
noticed_known notice old new is = let a = told_known notice old.standing.known in let b = is.known in omega (arith, a, b)

front_known : (answer : Answer) (standing : Standing) → standing.known ≤ (front_heard answer standing).known
front_known (answers.TidAndCount front switches) standing = omega arith
front_known _ standing = omega arith

standing_known : (old new : Standing) → new ≡ old → old.known ≤ new.known
standing_known old new same = let e : new.known ≡ old.known = ap (λ (s : Standing). s.known) same in omega (arith, e)

sync_known : (answer : Answer) (old new : Standing) → new ≡ front_heard answer old → old.known ≤ new.known
sync_known answer old new is =
    let e : new.known ≡ (front_heard answer old).known = ap (λ (s : Standing). s.known) is in
    let a = front_known answer old in
    omega (arith, e, a)

answer_known : (last : Option Call) (answer : Answer) (old new : Held) → IsAnswerHeard last answer old new → old.standing.known ≤ new.standing.known
answer_known None answer old new is = same_known old new is
answer_known (Some (calls.LoadBefore oid front)) answer old new is = standing_known old.standing new.standing is.1
answer_known (Some calls.Sync) answer old new is = sync_known answer old.standing new.standing is.1
answer_known (Some _) answer old new is = same_known old new is

heard_known : (last : Option Call) (message : Message) (old new : Held) → IsHeard last message old new → old.standing.known ≤ new.standing.known
heard_known last (Told notice) old new is = noticed_known notice old new is
heard_known last (Answered number answer) old new is = answer_known last answer old new is
heard_known last (Asked number call) old new is = same_known old new is

takes_known : (number : ℕ) (last : Option Call) (payloads : List (List ℕ)) (old new : Held) (result : Result (List Message) ClientError) → Takes number last payloads old result new → old.standing.known ≤ new.standing.known
takes_known number last _ old new _ (taken_all _) = omega arith
takes_known number last _ old new _ (bad payload rest _ none) = omega arith
takes_known number last _ old new _ (starved payloads _) = omega arith
takes_known number last _ old new _ (taken payload rest message _ behind _ result is heard takes) =
    let a = heard_known last message old behind heard in let b = takes_known number last rest behind new result takes in omega (arith, a, b)

cut_known : (number : ℕ) (last : Option Call) (payloads : Result (List (List ℕ)) FrameError) (old new : Held) (result : Result (List Message) ClientError) → TakesIfCut number last payloads old result new → old.standing.known ≤ new.standing.known
cut_known number last (Ok payloads) old new result takes = takes_known number last payloads old new result takes
cut_known number last (Err error) old new result is = same_known old new is.1

pub piece_known : (old : ClientState) (piece : List ℕ) (result : Result (List Message) ClientError) (new : ClientState) → IsTakenSo old piece result new → old.held.standing.known ≤ new.held.standing.known
piece_known old piece result new is = cut_known old.number old.last is.payloads old.held new.held result is.taken
