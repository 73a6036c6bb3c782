-- Laws of turns.
use Rattle.std.proofs.Common.{◌≡◌, ℕ, ◌+◌, ◌<◌, ◌≤◌, Bool, true, false, List, [], ◌∷◌, ◌++◌, ◌∙◌, Option, Some, None, cond, refl, sym, ap, subst, arith}
use Rattle.std.specs.List.{AllByRecursion, AllPairs}
use Rattle.std.proofs.lemmas.List.Elements.{All-from_recursion}
use Rattle.std.proofs.lemmas.List.Kept.{AllPairs-cons}
use Rattle.zb_ids.specs.declared.stamp.Stamp.{Stamp}
use Rattle.zb_model.specs.declared.data.Transaction.{Transaction}
use Rattle.zb_model.specs.Database.{IsDatabase}
use Rattle.zb_model.specs.Queries.{greatest_oid}
use Rattle.zb_answers.specs.declared.answer.Answer.{Answer}
use Rattle.zb_script.specs.declared.line.Line.{Line}
use Rattle.zb_script.specs.declared.line.Line.TheVariants as line
use Rattle.zb_script.specs.declared.line.Turn.{Turn}
use Rattle.zodb_core.specs.Machine.{Rules, front_of}
use Rattle.zodb_core.specs.Outcomes.{FaultCounts}
use Rattle.zodb_core.specs.SoundLaws.{front_come, over_sound}
use Rattle.client_turns.specs.Clients.{Client, Linked, Local, Moment, Standing, client_named, first_moment, has_name, place_of_client}
use Rattle.client_turns.specs.Fronts.{GivenFront, IsNotBelow, begins_known, front_given, fronts_given, fronts_in}
use Rattle.client_turns.specs.Laws.{FrontsNeverFall, IsSoundMoment, KnowsUpTo, NumbersAreNew, TheListStaysADatabase}
use Rattle.client_turns.specs.Numbers.{given_in_line, number_given, number_listed, numbers_given}
use Rattle.client_turns.specs.Output.{FlaggedTurn, Out, TurnAnswer}
use Rattle.client_turns.specs.Refusing.{IsFittingLine}
use Rattle.client_turns.specs.Turns.{IsAnswered, IsLine}
use Rattle.connection_view.specs.Views.{View}
use Rattle.client_turns.proofs.Following.{FollowsMoment, closing_follows, follows_twice, line_follows, moment_follows, sound_of, turn_follows}
use Rattle.client_turns.proofs.Giving.{Gives, IsFrontOf, KnowsAs, StandsAs, line_gives}
use Rattle.client_turns.proofs.Standings.{AllKnow, KnowsFrom, closing_clients, first_of, known_up_to, line_clients, named_first, named_goes, same_client, same_view}
use Rattle.client_turns.proofs.Numbering.{Rises, all_above, at_rises, rises_from, rises_joined, rising_pairs}

pub out_follows : (rules : Rules) (m now : Moment) (turns : List FlaggedTurn) (out : List TurnAnswer) → IsSoundMoment m → Out rules m turns out now → FollowsMoment m now
out_follows rules m now [] [] sound is = moment_follows m now sound is
out_follows rules m now [] (o ∷ out) sound is = absurd is
out_follows rules m now (t ∷ turns) [] sound is = absurd is
out_follows rules m now (t ∷ turns) (o ∷ out) sound is =
    let first : FollowsMoment m is.0 = turn_follows rules m is.0 t.turn t.is_last o.answer sound is.2 in
    let rest : FollowsMoment is.0 now = out_follows rules is.0 now turns out (sound_of m is.0 first) is.3 in
    record { machine = follows_twice m.machine is.0.machine now.machine first.machine rest.machine; formed = rest.formed; known = rest.known }

pub first_sound : (list : List Transaction) (stamps : Option (List Stamp)) (counts : FaultCounts) → IsDatabase list → IsSoundMoment (first_moment list stamps counts)
first_sound list stamps counts is = record { machine = over_sound list is; formed = tt; known = tt }

pub list_stays : TheListStaysADatabase
list_stays rules list stamps counts turns out now is output =
    let all : FollowsMoment (first_moment list stamps counts) now = out_follows rules (first_moment list stamps counts) now turns out (first_sound list stamps counts is) output in
    record { database = all.machine.sound.database; comes = all.machine.comes; grows = all.machine.grows }

-- ---- what turns are given

line_up : (rules : Rules) (m now : Moment) (name : List ℕ) (l : Line) (a : Answer) → IsSoundMoment m → IsFittingLine l → IsLine rules m name l a now → front_of m.machine.list ≤ front_of now.machine.list
line_up rules m now name l a sound fits is = let line : FollowsMoment m now = line_follows rules m now name l a sound fits is in front_come m.machine.list now.machine.list line.machine.comes

-- a front that an answered turn gives
turn_front : (rules : Rules) (m now : Moment) (t : Turn) (last : Bool) (a : Answer) (f : ℕ) → IsSoundMoment m → IsAnswered rules m t last a now → front_given a ≡ Some f → IsFrontOf m now t.client t.line f
turn_front rules m now t last a f sound is given =
    let line : FollowsMoment m is.behind = line_follows rules m is.behind t.client t.line a sound is.fits is.line in
    let closing : FollowsMoment is.behind now = closing_follows rules is.behind now t.client last (sound_of m is.behind line) is.closing in
    let gives : IsFrontOf m is.behind t.client t.line f = (line_gives rules m is.behind t.client t.line a (line_up rules m is.behind t.client t.line a sound is.fits is.line) is.line).front f given in
    record {
      known = gives.known;
      low = gives.low;
      high = λ unknown. omega (arith, gives.high unknown, front_come is.behind.machine.list now.machine.list closing.machine.comes);
      told = λ unknown. subst (λ (cs : List Client). KnowsFrom f (client_named t.client cs)) (sym (closing_clients rules is.behind now t.client last is.closing)) (gives.told unknown);
    }

front_up : (m now : Moment) → FollowsMoment m now → front_of m.machine.list ≤ front_of now.machine.list
front_up m now follows = front_come m.machine.list now.machine.list follows.machine.comes

-- the list's front is as high, and what the client of a name knows
record HasReached (m : Moment) (low : ℕ) (name : List ℕ) : Type 0 where
  list : low ≤ front_of m.machine.list
  known : KnowsFrom low (client_named name m.clients)

turn_reaches : (rules : Rules) (m now : Moment) (t : Turn) (last : Bool) (a : Answer) (low : ℕ) (name : List ℕ) → IsSoundMoment m → IsAnswered rules m t last a now → HasReached m low name → HasReached now low name
turn_reaches rules m now t last a low name sound is has =
    let line : FollowsMoment m is.behind = line_follows rules m is.behind t.client t.line a sound is.fits is.line in
    let closing : FollowsMoment is.behind now = closing_follows rules is.behind now t.client last (sound_of m is.behind line) is.closing in
    let high : low ≤ front_of is.behind.machine.list = omega (arith, has.list, front_up m is.behind line) in
    record {
      list = omega (arith, high, front_up is.behind now closing);
      known = subst (λ (cs : List Client). KnowsFrom low (client_named name cs)) (sym (closing_clients rules is.behind now t.client last is.closing))
          (named_goes name low (front_of is.behind.machine.list) m.clients is.behind.clients high (line_clients rules m is.behind t.client t.line a is.line) has.known);
    }

-- what a client knows, as it begins with that, isn't below what it was known to reach
knows_as : (low f : ℕ) (o : Option Client) → KnowsFrom low o → KnowsAs f o → low ≤ f
knows_as low f None from stands = absurd stands
knows_as low f (Some c) from stands = by_standing c.standing refl stands
  where
    by_standing : (s : Standing) → c.standing ≡ s → StandsAs f s → low ≤ f
    by_standing Local is stands = absurd stands
    by_standing (Linked v) is stands = omega (arith, from v is, stands)

-- and isn't above the list's front
knows_up : (low f : ℕ) (cs : List Client) (o : Option Client) → ((c : Client) → o ≡ Some c → KnowsUpTo low c.standing) → KnowsAs f o → f ≤ low
knows_up low f cs None all stands = absurd stands
knows_up low f cs (Some c) all stands = by_standing c.standing refl stands
  where
    by_standing : (s : Standing) → c.standing ≡ s → StandsAs f s → f ≤ low
    by_standing Local is stands = absurd stands
    by_standing (Linked v) is stands = omega (arith, known_up_to low c.standing (all c refl) v is, stands)

knows_still : (f : ℕ) (o : Option Client) → KnowsAs f o → KnowsFrom f o
knows_still f None stands = tt
knows_still f (Some c) stands = λ v linked. by_standing v c.standing linked stands
  where
    by_standing : (v : View) (s : Standing) → s ≡ Linked v → StandsAs f s → f ≤ v.front
    by_standing v Local is stands = absurd stands
    by_standing v (Linked w) is stands = omega (arith, stands, ap (λ (x : View). x.front) (same_view w v is))

all_named : (low : ℕ) (name : List ℕ) (cs : List Client) → AllKnow low cs → (c : Client) → client_named name cs ≡ Some c → KnowsUpTo low c.standing
all_named low name cs all c is = by_first cs all (sym (named_first name cs) ∙ is)
  where
    by_first : (cs : List Client) → AllKnow low cs → first_of name cs ≡ Some c → KnowsUpTo low c.standing
    by_first [] all is = absurd cc
    by_first (d ∷ cs) all is = by_name (has_name name d) is (λ e. by_first cs all.1 e)
      where
        by_name : (b : Bool) → cond b (Some d) (first_of name cs) ≡ Some c → (first_of name cs ≡ Some c → KnowsUpTo low c.standing) → KnowsUpTo low c.standing
        by_name true is rest = subst (λ (x : Client). KnowsUpTo low x.standing) (same_client d c is) all.0
        by_name false is rest = rest is

-- behind a front that was given, the list and the client have reached it
given_reaches : (rules : Rules) (m now : Moment) (t : Turn) (last : Bool) (a : Answer) (f : ℕ) → IsSoundMoment m → IsAnswered rules m t last a now → front_given a ≡ Some f → HasReached now f t.client
given_reaches rules m now t last a f sound is given = by_known (begins_known (client_named t.client m.clients) t.line) refl
  where
    front : IsFrontOf m now t.client t.line f
    front = turn_front rules m now t last a f sound is given

    by_known : (b : Bool) → begins_known (client_named t.client m.clients) t.line ≡ b → HasReached now f t.client
    by_known true known =
        let stands : KnowsAs f (client_named t.client m.clients) = front.known known in
        turn_reaches rules m now t last a f t.client sound is (record {
          list = knows_up (front_of m.machine.list) f m.clients (client_named t.client m.clients) (all_named (front_of m.machine.list) t.client m.clients sound.known) stands;
          known = knows_still f (client_named t.client m.clients) stands;
        })
    by_known false unknown = record { list = front.high unknown; known = front.told unknown }

-- a front that is given isn't below what was reached, where it is the list's, or the same client's
given_low : (m now : Moment) (t : Turn) (f low : ℕ) (name : List ℕ) → IsFrontOf m now t.client t.line f → HasReached m low name → (begins_known (client_named t.client m.clients) t.line ≡ true → t.client ≡ name) → low ≤ f
given_low m now t f low name front has own = by_known (begins_known (client_named t.client m.clients) t.line) refl
  where
    by_known : (b : Bool) → begins_known (client_named t.client m.clients) t.line ≡ b → low ≤ f
    by_known true known = knows_as low f (client_named t.client m.clients) (subst (λ (n : List ℕ). KnowsFrom low (client_named n m.clients)) (sym (own known)) has.known) (front.known known)
    by_known false unknown = omega (arith, has.list, front.low unknown)

abbrev IsFrom : ℕ → List ℕ → GivenFront → Type 0
IsFrom low name g = (g.is_known ≡ true → g.client ≡ name) → low ≤ g.front

fronts_from : (rules : Rules) (m now : Moment) (turns : List FlaggedTurn) (out : List TurnAnswer) (low : ℕ) (name : List ℕ) → IsSoundMoment m → (is : Out rules m turns out now) → HasReached m low name
    → AllByRecursion (IsFrom low name) (fronts_given rules m turns out now is)
fronts_from rules m now [] [] low name sound is has = tt
fronts_from rules m now [] (o ∷ out) low name sound is has = absurd is
fronts_from rules m now (t ∷ turns) [] low name sound is has = absurd is
fronts_from rules m now (t ∷ turns) (o ∷ out) low name sound is has =
    let first : FollowsMoment m is.0 = turn_follows rules m is.0 t.turn t.is_last o.answer sound is.2 in
    by_front (front_given o.answer) refl (fronts_from rules is.0 now turns out low name (sound_of m is.0 first) is.3 (turn_reaches rules m is.0 t.turn t.is_last o.answer low name sound is.2 has))
  where
    by_front : (g : Option ℕ) → front_given o.answer ≡ g → AllByRecursion (IsFrom low name) (fronts_given rules is.0 turns out now is.3)
        → AllByRecursion (IsFrom low name) (fronts_in t.turn.client (begins_known (client_named t.turn.client m.clients) t.turn.line) g ++ fronts_given rules is.0 turns out now is.3)
    by_front None given rest = rest
    by_front (Some f) given rest = (λ own. given_low m is.0 t.turn f low name (turn_front rules m is.0 t.turn t.is_last o.answer f sound is.2 given) has own, rest)

fronts_rise : (rules : Rules) (m now : Moment) (turns : List FlaggedTurn) (out : List TurnAnswer) → IsSoundMoment m → (is : Out rules m turns out now) → AllPairs IsNotBelow (fronts_given rules m turns out now is)
fronts_rise rules m now [] [] sound is = λ i j d before within. absurd (omega arith)
fronts_rise rules m now [] (o ∷ out) sound is = absurd is
fronts_rise rules m now (t ∷ turns) [] sound is = absurd is
fronts_rise rules m now (t ∷ turns) (o ∷ out) sound is =
    let first : FollowsMoment m is.0 = turn_follows rules m is.0 t.turn t.is_last o.answer sound is.2 in
    let later : IsSoundMoment is.0 = sound_of m is.0 first in
    by_front (front_given o.answer) refl later (fronts_rise rules is.0 now turns out later is.3)
  where
    by_front : (g : Option ℕ) → front_given o.answer ≡ g → IsSoundMoment is.0 → AllPairs IsNotBelow (fronts_given rules is.0 turns out now is.3)
        → AllPairs IsNotBelow (fronts_in t.turn.client (begins_known (client_named t.turn.client m.clients) t.turn.line) g ++ fronts_given rules is.0 turns out now is.3)
    by_front None given later rest = rest
    by_front (Some f) given later rest =
        let this : GivenFront = record { client = t.turn.client; front = f; is_known = begins_known (client_named t.turn.client m.clients) t.turn.line } in
        AllPairs-cons IsNotBelow this (fronts_given rules is.0 turns out now is.3)
        (All-from_recursion (IsNotBelow this) (fronts_given rules is.0 turns out now is.3)
        (fronts_from rules is.0 now turns out f t.turn.client later is.3 (given_reaches rules m is.0 t.turn t.is_last o.answer f sound is.2 given)))
        rest

pub fronts_stay_up : FrontsNeverFall
fronts_stay_up rules list stamps counts turns out now is output = fronts_rise rules (first_moment list stamps counts) now turns out (first_sound list stamps counts is) output

-- ---- new numbers

-- an answer gives at most one, behind the greatest
listed_rises : (low high : ℕ) (g : Option ℕ) → low ≤ high → ((n : ℕ) → g ≡ Some n → (n ≡ low + 1) × (n ≤ high)) → Rises low high (number_listed g)
listed_rises low high None up given = up
listed_rises low high (Some n) up given = let is : (n ≡ low + 1) × (n ≤ high) = given n refl in (omega (arith, is.0), is.1)

line_rises : (F : ℕ → Type 0) (rules : Rules) (m now : Moment) (name : List ℕ) (l : Line) (a : Answer) → (is : IsLine rules m name l a now) → m.machine.greatest ≤ now.machine.greatest → Gives F m.machine now.machine a
    → Rises m.machine.greatest now.machine.greatest (given_in_line rules m name l a now is)
line_rises F rules m now name (line.Tree root call) a is up gives = at_rises rules m now (place_of_client name m.clients) root call a is
line_rises F rules m now name _ a is up gives = listed_rises m.machine.greatest now.machine.greatest (number_given a) up gives.number

numbers_rise : (rules : Rules) (m now : Moment) (turns : List FlaggedTurn) (out : List TurnAnswer) → IsSoundMoment m → (is : Out rules m turns out now) → Rises m.machine.greatest now.machine.greatest (numbers_given rules m turns out now is)
numbers_rise rules m now [] [] sound is = omega (arith, ap (λ (x : Moment). x.machine.greatest) is)
numbers_rise rules m now [] (o ∷ out) sound is = absurd is
numbers_rise rules m now (t ∷ turns) [] sound is = absurd is
numbers_rise rules m now (t ∷ turns) (o ∷ out) sound is =
    let turn : IsAnswered rules m t.turn t.is_last o.answer is.0 = is.2 in
    let first : FollowsMoment m is.0 = turn_follows rules m is.0 t.turn t.is_last o.answer sound turn in
    let line : FollowsMoment m turn.behind = line_follows rules m turn.behind t.turn.client t.turn.line o.answer sound turn.fits turn.line in
    let closing : FollowsMoment turn.behind is.0 = closing_follows rules turn.behind is.0 t.turn.client t.is_last (sound_of m turn.behind line) turn.closing in
    rises_joined m.machine.greatest turn.behind.machine.greatest now.machine.greatest (given_in_line rules m t.turn.client t.turn.line o.answer turn.behind turn.line) (numbers_given rules is.0 turns out now is.3)
    (line_rises (IsFrontOf m turn.behind t.turn.client t.turn.line) rules m turn.behind t.turn.client t.turn.line o.answer turn.line line.machine.greatest
    (line_gives rules m turn.behind t.turn.client t.turn.line o.answer (line_up rules m turn.behind t.turn.client t.turn.line o.answer sound turn.fits turn.line) turn.line))
    (rises_from turn.behind.machine.greatest is.0.machine.greatest now.machine.greatest (numbers_given rules is.0 turns out now is.3) closing.machine.greatest
    (numbers_rise rules is.0 now turns out (sound_of m is.0 first) is.3))

pub numbers_new : NumbersAreNew
numbers_new rules list stamps counts turns more out behind m now is before output =
    let sound : IsSoundMoment m = sound_of (first_moment list stamps counts) m (out_follows rules (first_moment list stamps counts) m turns out (first_sound list stamps counts is) before) in
    let rises : Rises m.machine.greatest now.machine.greatest (numbers_given rules m more behind now output) = numbers_rise rules m now more behind sound output in
    record {
      rising = rising_pairs m.machine.greatest now.machine.greatest (numbers_given rules m more behind now output) rises;
      unlisted = All-from_recursion (λ (n : ℕ). greatest_oid m.machine.list < n) (numbers_given rules m more behind now output)
          (all_above (greatest_oid m.machine.list) now.machine.greatest (numbers_given rules m more behind now output)
          (rises_from (greatest_oid m.machine.list) m.machine.greatest now.machine.greatest (numbers_given rules m more behind now output) sound.machine.numbered rises));
    }
