-- Payloads that are taken one after another.
use Rattle.std.proofs.Common.{◌≡◌, ℕ, ◌+◌, ◌<◌, ◌≤◌, List, [], ◌∷◌, ◌++◌, drop, length, get_or, Option, Some, None, Result, Ok, Err, refl, sym, ap, subst, ◌∙◌, append_assoc, add-one, drop-cons}
use Rattle.std.proofs.lemmas.List.{append-nil, drop_all}
use Rattle.zeo_messages.specs.declared.call.Call.{Call}
use Rattle.zeo_messages.specs.declared.message.Message.{Message}
use Rattle.zeo_client.specs.declared.error.ClientError.{ClientError}
use Rattle.zeo_client.specs.declared.error.ClientError.TheVariants as error
use Rattle.zeo_client.specs.Hearing.{Held, IsHeard}
use Rattle.zeo_client.specs.Taking.{IsTaken, Takes, ahead, bad, coming, starved, taken, taken_all}

-- messages ahead of others
abbrev pub behind : List Message → Result (List Message) ClientError → Result (List Message) ClientError
behind messages (Ok more) = Ok (messages ++ more)
behind messages (Err e) = Err e

-- what the rest gives makes the whole
pub record GivesWhole (number : ℕ) (last : Option Call) (whole rest : List (List ℕ)) (first now : Held) (messages : List Message) : Type 0 where
  pub gives : (result : Result (List Message) ClientError) (end : Held) → Takes number last rest now result end → Takes number last whole first (behind messages result) end

module _ (number : ℕ) (last : Option Call) where
  itself : (result : Result (List Message) ClientError) → result ≡ behind [] result
  itself (Ok messages) = refl
  itself (Err e) = refl

  pub begins : (whole : List (List ℕ)) (held : Held) → GivesWhole number last whole (drop 0 whole) held held []
  begins whole held = record { gives = λ result end takes. subst (λ (r : Result (List Message) ClientError). Takes number last whole held r end) (itself result) takes }

  joined : (messages : List Message) (message : Message) (more : List Message) → messages ++ (message ∷ more) ≡ (messages ++ message ∷ []) ++ more
  joined messages message more = simp append_assoc

  pushed : (messages : List Message) (message : Message) (result : Result (List Message) ClientError) → behind messages (ahead message result) ≡ behind (messages ++ message ∷ []) result
  pushed messages message (Ok more) = ap (λ (ms : List Message). let r : Result (List Message) ClientError = Ok ms in r) (joined messages message more)
  pushed messages message (Err e) = refl

  pub goes_on : (whole : List (List ℕ)) (i : ℕ) (d : List ℕ) (first old new : Held) (messages : List Message) (message : Message) → i < length whole
      → GivesWhole number last whole (drop i whole) first old messages → IsTaken number last (get_or whole i d) old (Ok message) new
      → GivesWhole number last whole (drop (i + 1) whole) first new (messages ++ message ∷ [])
  goes_on whole i d first old new messages message lt so_far one = record {
    gives = λ result end takes.
        let front : drop i whole ≡ get_or whole i d ∷ drop (i + 1) whole = rw add-one (drop-cons whole i d lt) in
        subst (λ (r : Result (List Message) ClientError). Takes number last whole first r end) (pushed messages message result)
        (so_far.gives (ahead message result) end
        (subst (λ (ps : List (List ℕ)). Takes number last ps old (ahead message result) end) (sym front) (taken (get_or whole i d) (drop (i + 1) whole) message old new end result one.0 one.1 takes)));
  }

  pub is_bad : (whole : List (List ℕ)) (i : ℕ) (d : List ℕ) (first old new : Held) (messages : List Message) → i < length whole
      → GivesWhole number last whole (drop i whole) first old messages → IsTaken number last (get_or whole i d) old (Err error.BadMessage) new → Takes number last whole first (Err error.BadMessage) new
  is_bad whole i d first old new messages lt so_far one =
      let front : drop i whole ≡ get_or whole i d ∷ drop (i + 1) whole = rw add-one (drop-cons whole i d lt) in
      subst (λ (h : Held). Takes number last whole first (Err error.BadMessage) h) (sym one.1)
      (so_far.gives (Err error.BadMessage) old (subst (λ (ps : List (List ℕ)). Takes number last ps old (Err error.BadMessage) old) (sym front) (bad (get_or whole i d) (drop (i + 1) whole) old one.0)))

  pub is_starved : (whole rest : List (List ℕ)) (first old : Held) (messages : List Message) → GivesWhole number last whole rest first old messages → Takes number last whole first (Err error.Memory) old
  is_starved whole rest first old messages so_far = so_far.gives (Err error.Memory) old (starved rest old)

  -- however a payload is refused
  pub is_refused : (whole : List (List ℕ)) (i : ℕ) (d : List ℕ) (first old new : Held) (messages : List Message) (e : ClientError) → i < length whole
      → GivesWhole number last whole (drop i whole) first old messages → IsTaken number last (get_or whole i d) old (Err e) new → Takes number last whole first (Err e) new
  is_refused whole i d first old new messages error.BadMessage lt so_far one = is_bad whole i d first old new messages lt so_far one
  is_refused whole i d first old new messages error.Memory lt so_far one =
      subst (λ (h : Held). Takes number last whole first (Err error.Memory) h) (sym one) (is_starved whole (drop i whole) first old messages so_far)
  is_refused whole i d first old new messages error.LinkFault lt so_far one = absurd one
  is_refused whole i d first old new messages error.Closed lt so_far one = absurd one
  is_refused whole i d first old new messages (error.FrameTooLong length) lt so_far one = absurd one

  pub is_whole : (whole : List (List ℕ)) (i : ℕ) (first now : Held) (messages : List Message) → length whole ≤ i → GivesWhole number last whole (drop i whole) first now messages → Takes number last whole first (Ok messages) now
  is_whole whole i first now messages all so_far =
      subst (λ (ms : List Message). Takes number last whole first (Ok ms) now) (append-nil messages)
      (so_far.gives (Ok []) now (subst (λ (ps : List (List ℕ)). Takes number last ps now (Ok []) now) (sym (drop_all i whole all)) (taken_all now)))
