-- What a call's space keeps of its calls.
use Rattle.std.proofs.Common.{◌≡◌, ℕ, zero, suc, ◌+◌, ◌<◌, Bool, true, false, List, [], ◌∷◌, ◌++◌, length, map, take, Option, Some, None, Result, Ok, Err, refl, sym, ap, subst, ◌∙◌, arith}
use Rattle.std.specs.Prelude.{All, IfOk, if◌then◌else◌, is_some, nat_eq, nat_lt, slice_get, ◌&&◌, ◌||◌}
use Rattle.std.specs.List.{list_all}
use Rattle.std.specs.Option.{option_map}
use Rattle.std.proofs.lemmas.Bool.{eqb-true, ltb-true, lt-ltb}
use Rattle.std.proofs.lemmas.List.Elements.{All-cons}
use Rattle.pickle_graph.specs.Graph.{Graph}
use Rattle.pickle_writing.specs.Spelling.{Spelled, pickled, spelling_of, pickle_text}
use Rattle.zb_record.specs.Records.{object_text, one_behind}
use Rattle.tree_attempts.specs.declared.put.TreePut.{TreePut}
use Rattle.std.specs.declared.alloc.AllocError.{AllocError}
use Rattle.zb_model.specs.declared.refusal.Refusal.{Refusal}
use Rattle.btree_shapes.specs.declared.space.Call.{Call}
use Rattle.btree_shapes.specs.declared.space.Call.TheVariants.{Read, Drew, Wrote}
use Rattle.btree_shapes.specs.declared.error.TreeError.{TreeError}
use Rattle.btree_shapes.specs.declared.error.TreeError.TheVariants as error
use Rattle.btree_shapes.specs.Spaces.{IsRecordText, text_or_none, with_bytes}
use Rattle.btree_shapes.specs.Ways.{stands_in}
use Rattle.btree_maps.specs.Drawn.{drawn_in}
use Rattle.tree_attempts.specs.declared.attempt.Attempt.{Attempt}
use Rattle.tree_attempts.specs.declared.attempt.Attempt.TheVariants as attempt
use Rattle.tree_attempts.specs.declared.known.Seen.{Seen}
use Rattle.tree_attempts.specs.declared.operation.TreeAnswer.{TreeAnswer}
use Rattle.tree_attempts.specs.declared.operation.TreeOperation.{TreeOperation}
use Rattle.tree_attempts.specs.Calls.{AreKnown, CallEnds, CallFails, HasRead, IsAttempt, IsLacked, IsMade, IsRefused, IsWant, ReadsOnWay, bases_of, contents_after, contents_of, has_members, is_read_known, oids_of, reads_in, refusal_of, written_in}
use Rattle.tree_attempts.specs.Known.{Agrees, known_at}
use Rattle.tree_attempts.specs.Puts.{are_filled, based_on, serial_seen}
use Rattle.tree_attempts.proofs.Refused.{none_drawn}

-- ---- calls

pub drawn_read : (calls : List Call) (oid : ℕ) → drawn_in (calls ++ Read oid ∷ []) ≡ drawn_in calls
drawn_read [] oid = refl
drawn_read (Read o ∷ calls) oid = drawn_read calls oid
drawn_read (Drew o ∷ calls) oid = ap (λ (os : List ℕ). o ∷ os) (drawn_read calls oid)
drawn_read (Wrote o ∷ calls) oid = drawn_read calls oid

pub drawn_wrote : (calls : List Call) (oid : ℕ) → drawn_in (calls ++ Wrote oid ∷ []) ≡ drawn_in calls
drawn_wrote [] oid = refl
drawn_wrote (Read o ∷ calls) oid = drawn_wrote calls oid
drawn_wrote (Drew o ∷ calls) oid = ap (λ (os : List ℕ). o ∷ os) (drawn_wrote calls oid)
drawn_wrote (Wrote o ∷ calls) oid = drawn_wrote calls oid

pub drawn_drew : (calls : List Call) (oid : ℕ) → drawn_in (calls ++ Drew oid ∷ []) ≡ drawn_in calls ++ oid ∷ []
drawn_drew [] oid = refl
drawn_drew (Read o ∷ calls) oid = drawn_drew calls oid
drawn_drew (Drew o ∷ calls) oid = ap (λ (os : List ℕ). o ∷ os) (drawn_drew calls oid)
drawn_drew (Wrote o ∷ calls) oid = drawn_drew calls oid

pub written_read : (calls : List Call) (oid : ℕ) → written_in (calls ++ Read oid ∷ []) ≡ written_in calls
written_read [] oid = refl
written_read (Read o ∷ calls) oid = written_read calls oid
written_read (Drew o ∷ calls) oid = written_read calls oid
written_read (Wrote o ∷ calls) oid = ap (λ (os : List ℕ). o ∷ os) (written_read calls oid)

pub written_drew : (calls : List Call) (oid : ℕ) → written_in (calls ++ Drew oid ∷ []) ≡ written_in calls
written_drew [] oid = refl
written_drew (Read o ∷ calls) oid = written_drew calls oid
written_drew (Drew o ∷ calls) oid = written_drew calls oid
written_drew (Wrote o ∷ calls) oid = ap (λ (os : List ℕ). o ∷ os) (written_drew calls oid)

pub written_wrote : (calls : List Call) (oid : ℕ) → written_in (calls ++ Wrote oid ∷ []) ≡ written_in calls ++ oid ∷ []
written_wrote [] oid = refl
written_wrote (Read o ∷ calls) oid = written_wrote calls oid
written_wrote (Drew o ∷ calls) oid = written_wrote calls oid
written_wrote (Wrote o ∷ calls) oid = ap (λ (os : List ℕ). o ∷ os) (written_wrote calls oid)

-- one more of the numbers is given
take_next : (numbers : List ℕ) (used oid : ℕ) → slice_get numbers used ≡ Some oid → take (suc used) numbers ≡ take used numbers ++ oid ∷ []
take_next [] used oid is = absurd cc
take_next (n ∷ numbers) zero oid is = ap (λ (k : ℕ). k ∷ []) (same n oid is)
  where
    same : (a b : ℕ) → Some a ≡ Some b → a ≡ b
    same a b e = cc
take_next (n ∷ numbers) (suc used) oid is = ap (λ (ks : List ℕ). n ∷ ks) (take_next numbers used oid is)

pub gives_more : (calls calls' : List Call) (numbers : List ℕ) (used oid : ℕ) → drawn_in calls ≡ take used numbers → calls' ≡ calls ++ Drew oid ∷ [] → slice_get numbers used ≡ Some oid → drawn_in calls' ≡ take (used + 1) numbers
gives_more calls calls' numbers used oid drawn is there =
    let next : used + 1 ≡ suc used = omega arith in
    ap drawn_in is ∙ drawn_drew calls oid ∙ ap (λ (ks : List ℕ). ks ++ oid ∷ []) drawn ∙ sym (take_next numbers used oid there) ∙ ap (λ (k : ℕ). take k numbers) (sym next)

-- ---- puts

pub oids_more : (puts : List TreePut) (p : TreePut) → oids_of (puts ++ p ∷ []) ≡ oids_of puts ++ p.oid ∷ []
oids_more [] p = refl
oids_more (q ∷ puts) p = ap (λ (os : List ℕ). q.oid ∷ os) (oids_more puts p)

pub bases_more : (puts : List TreePut) (p : TreePut) → bases_of (puts ++ p ∷ []) ≡ bases_of puts ++ p.base ∷ []
bases_more [] p = refl
bases_more (q ∷ puts) p = ap (λ (os : List ℕ). q.base ∷ os) (bases_more puts p)

mapped_more : (f : ℕ → ℕ) (ns : List ℕ) (n : ℕ) → map f (ns ++ n ∷ []) ≡ map f ns ++ f n ∷ []
mapped_more f [] n = refl
mapped_more f (k ∷ ns) n = ap (λ (os : List ℕ). f k ∷ os) (mapped_more f ns n)

pub based_more : (f : ℕ → ℕ) (puts puts' : List TreePut) (p : TreePut) → bases_of puts ≡ map f (oids_of puts) → p.base ≡ f p.oid → puts' ≡ puts ++ p ∷ [] → bases_of puts' ≡ map f (oids_of puts')
based_more f puts puts' p based base is =
    subst (λ (qs : List TreePut). bases_of qs ≡ map f (oids_of qs)) (sym is)
    (bases_more puts p ∙ ap (λ (bs : List ℕ). bs ++ p.base ∷ []) based ∙ ap (λ (b : ℕ). map f (oids_of puts) ++ b ∷ []) base ∙ sym (mapped_more f (oids_of puts) p.oid) ∙ ap (map f) (sym (oids_more puts p)))

filled_behind : (p : TreePut) → 0 < length p.bytes → (qs : List TreePut) → are_filled qs ≡ true → are_filled (qs ++ p ∷ []) ≡ true
filled_behind p filled [] all = ap (λ (b : Bool). if b then true else false) (lt-ltb 0 (length p.bytes) filled)
filled_behind p filled (q ∷ qs) all = by_first (nat_lt 0 (length q.bytes)) (filled_behind p filled qs) all
  where
    by_first : (b : Bool) → (are_filled qs ≡ true → are_filled (qs ++ p ∷ []) ≡ true) → (if b then are_filled qs else false) ≡ true → (if b then are_filled (qs ++ p ∷ []) else false) ≡ true
    by_first true more rest = more rest
    by_first false more rest = absurd cc

pub filled_more : (puts puts' : List TreePut) (p : TreePut) → are_filled puts ≡ true → 0 < length p.bytes → puts' ≡ puts ++ p ∷ [] → are_filled puts' ≡ true
filled_more puts puts' p all filled is = subst (λ (qs : List TreePut). are_filled qs ≡ true) (sym is) (filled_behind p filled puts all)

pub contents_more : (puts : List TreePut) (p : TreePut) (contents : ℕ → Option (List ℕ)) → contents_after (puts ++ p ∷ []) contents ≡ with_bytes (contents_after puts contents) p.oid p.bytes
contents_more [] p contents = refl
contents_more (q ∷ puts) p contents = contents_more puts p (with_bytes contents q.oid q.bytes)

pub all_filled : (puts : List TreePut) → are_filled puts ≡ true → All (λ p. 0 < length p.bytes) puts
all_filled [] all = λ k d less. absurd (omega (arith, less))
all_filled (p ∷ puts) all = by_first (nat_lt 0 (length p.bytes)) refl (all_filled puts) all
  where
    by_first : (b : Bool) → nat_lt 0 (length p.bytes) ≡ b → (are_filled puts ≡ true → All (λ q. 0 < length q.bytes) puts) → (if b then are_filled puts else false) ≡ true → All (λ q. 0 < length q.bytes) (p ∷ puts)
    by_first true is others rest = All-cons (λ (q : TreePut). 0 < length q.bytes) p puts (ltb-true 0 (length p.bytes) is) (others rest)
    by_first false is others rest = absurd cc

pub read_drawn : (calls calls' : List Call) (oid : ℕ) → calls' ≡ calls ++ Read oid ∷ [] → drawn_in calls' ≡ drawn_in calls
read_drawn calls calls' oid is = ap drawn_in is ∙ drawn_read calls oid

pub read_written : (calls calls' : List Call) (oid : ℕ) → calls' ≡ calls ++ Read oid ∷ [] → written_in calls' ≡ written_in calls
read_written calls calls' oid is = ap written_in is ∙ written_read calls oid

pub wrote_drawn : (calls calls' : List Call) (oid : ℕ) → calls' ≡ calls ++ Wrote oid ∷ [] → drawn_in calls' ≡ drawn_in calls
wrote_drawn calls calls' oid is = ap drawn_in is ∙ drawn_wrote calls oid

pub wrote_written : (calls calls' : List Call) (puts puts' : List TreePut) (p : TreePut) → calls' ≡ calls ++ Wrote p.oid ∷ [] → puts' ≡ puts ++ p ∷ [] → written_in calls ≡ oids_of puts → written_in calls' ≡ oids_of puts'
wrote_written calls calls' puts puts' p is more written =
    ap written_in is ∙ written_wrote calls p.oid ∙ ap (λ (os : List ℕ). os ++ p.oid ∷ []) written ∙ sym (ap oids_of more ∙ oids_more puts p)

-- ---- bases

pub base_new : (numbers : List ℕ) (objects : ℕ → Option Seen) (oid : ℕ) → stands_in numbers oid ≡ true → 0 ≡ based_on numbers objects oid
base_new numbers objects oid is = sym (ap (λ (b : Bool). if b then 0 else serial_seen (objects oid)) is)

pub base_known : (known : List (ℕ × Option Seen)) (numbers : List ℕ) (objects : ℕ → Option Seen) (oid : ℕ) (x : Option Seen) → Agrees known objects → stands_in numbers oid ≡ false → known_at known oid ≡ Some x → serial_seen x ≡ based_on numbers objects oid
base_known known numbers objects oid x agrees is there = ap serial_seen (sym (agrees oid x there)) ∙ sym (ap (λ (b : Bool). if b then 0 else serial_seen (objects oid)) is)

pub members_known : (known : List (ℕ × Option Seen)) (objects : ℕ → Option Seen) (root : ℕ) (x : Option Seen) → Agrees known objects → known_at known root ≡ Some x → has_members (option_map (λ (y : Seen). y.bytes) x) ≡ has_members (contents_of objects root)
members_known known objects root x agrees there = ap (λ (y : Option Seen). has_members (option_map (λ (z : Seen). z.bytes) y)) (sym (agrees root x there))

-- ---- records

same_text : (a b : List ℕ) → (let x : Spelled = Ok a in x) ≡ Ok b → a ≡ b
same_text a b e = cc

spelled_filled : (class state : Spelled) (text : List ℕ) → one_behind (pickled class) state ≡ Ok text → 0 < length text
spelled_filled (Err e) state text is = absurd cc
spelled_filled (Ok class) (Err e) text is = absurd cc
spelled_filled (Ok class) (Ok state) text is = subst (λ (t : List ℕ). 0 < length t) (same_text (128 ∷ 3 ∷ ((class ++ 46 ∷ []) ++ state)) text is) (omega arith)

record_filled : (class state : Graph) (text : List ℕ) → object_text class state ≡ Ok text → 0 < length text
record_filled class state text is = spelled_filled (spelling_of class.nodes class.root) (pickle_text state) text is

-- the bytes of a record are never none
pub text_filled : (bytes : List ℕ) → IsRecordText bytes → 0 < length bytes
text_filled bytes t =
    let is : bytes ≡ t.storable.text = t.bytes_are ∙ ap text_or_none t.storable.written in
    subst (λ (b : List ℕ). 0 < length b) (sym is) (record_filled t.class t.state t.storable.text t.storable.written)

-- ---- what an attempt comes to

fails_of : (before after : ℕ → Option (List ℕ)) (calls : List Call) (root : ℕ) (op : TreeOperation) (supply : ℕ) (e : TreeError) (why : Refusal) → refusal_of e ≡ Some why → CallEnds before after calls root op supply (Err e) → CallFails before after calls root op e
fails_of before after calls root op supply (error.NotATree oid) why is ends = ends
fails_of before after calls root op supply (error.NodeMissing oid) why is ends = ends
fails_of before after calls root op supply error.BadKey why is ends = ends
fails_of before after calls root op supply (error.Refused r) why is ends = absurd cc
fails_of before after calls root op supply error.Memory why is ends = absurd cc

pub refused_by : (objects : ℕ → Option Seen) (root : ℕ) (op : TreeOperation) (numbers : List ℕ) (supply : ℕ) (puts : List TreePut) (calls : List Call) (e : TreeError) (why : Refusal) → Some why ≡ refusal_of e
    → CallEnds (contents_of objects) (contents_after puts (contents_of objects)) calls root op supply (Err e) → drawn_in calls ≡ numbers → IsRefused objects root op why × (numbers ≡ [])
refused_by objects root op numbers supply puts calls e why is ends drawn =
    let fails = fails_of (contents_of objects) (contents_after puts (contents_of objects)) calls root op supply e why (sym is) ends in
    let none = none_drawn (contents_of objects) (contents_after puts (contents_of objects)) calls root op e why (sym is) fails in
    (record { e = e; told = sym is; after = contents_after puts (contents_of objects); calls = calls; fails = fails; undrawn = none }, sym drawn ∙ none)

pub refused_attempt : (objects : ℕ → Option Seen) (root : ℕ) (op : TreeOperation) (numbers : List ℕ) (supply : ℕ) (puts : List TreePut) (calls : List Call) (e : TreeError) (why : Refusal) (is_whole : Bool) (result : Result Attempt AllocError) → Some why ≡ refusal_of e
    → CallEnds (contents_of objects) (contents_after puts (contents_of objects)) calls root op supply (Err e) → (is_whole ≡ true → drawn_in calls ≡ numbers) → IfOk result (λ a. (is_whole ≡ true) × (a ≡ attempt.Refused why)) → IfOk result (IsAttempt objects root op numbers)
refused_attempt objects root op numbers supply puts calls e why is_whole (Ok a) is ends drawn same =
    subst (IsAttempt objects root op numbers) (sym same.1) (refused_by objects root op numbers supply puts calls e why is ends (drawn same.0))
refused_attempt objects root op numbers supply puts calls e why is_whole (Err x) is ends drawn same = tt

-- a call that the tree doesn't refuse ended for want of memory, or by a refusal of its space
free_reads : (before after : ℕ → Option (List ℕ)) (calls : List Call) (root : ℕ) (op : TreeOperation) (supply : ℕ) (e : TreeError) → refusal_of e ≡ None → CallEnds before after calls root op supply (Err e) → ReadsOnWay before calls root op
free_reads before after calls root op supply (error.Refused why) free ends = ends
free_reads before after calls root op supply error.Memory free ends = ends
free_reads before after calls root op supply (error.NotATree oid) free ends = absurd cc
free_reads before after calls root op supply (error.NodeMissing oid) free ends = absurd cc
free_reads before after calls root op supply error.BadKey free ends = absurd cc

pub want_attempt : (objects : ℕ → Option Seen) (root : ℕ) (op : TreeOperation) (numbers : List ℕ) (supply : ℕ) (puts : List TreePut) (calls : List Call) (lacked : Option ℕ) (e : TreeError) (result : Result Attempt AllocError) → None ≡ refusal_of e
    → CallEnds (contents_of objects) (contents_after puts (contents_of objects)) calls root op supply (Err e) → IsLacked calls lacked → IfOk result (IsWant numbers lacked) → IfOk result (IsAttempt objects root op numbers)
want_attempt objects root op numbers supply puts calls lacked e (Ok (attempt.Made made)) free ends was want = absurd want
want_attempt objects root op numbers supply puts calls lacked e (Ok (attempt.Refused why)) free ends was want = absurd want
want_attempt objects root op numbers supply puts calls lacked e (Ok (attempt.WantsObject oid)) free ends was want =
    (want.0, free_reads (contents_of objects) (contents_after puts (contents_of objects)) calls root op supply e (sym free) ends oid (was oid want.1))
want_attempt objects root op numbers supply puts calls lacked e (Ok attempt.WantsNumber) free ends was want = absurd want
want_attempt objects root op numbers supply puts calls lacked e (Err x) free ends was want = tt

pub made_by : (objects : ℕ → Option Seen) (root : ℕ) (op : TreeOperation) (numbers : List ℕ) (supply : ℕ) (puts : List TreePut) (calls : List Call) (a : TreeAnswer) → CallEnds (contents_of objects) (contents_after puts (contents_of objects)) calls root op supply (Ok (Some a))
    → drawn_in calls ≡ numbers → written_in calls ≡ oids_of puts → bases_of puts ≡ map (based_on numbers objects) (oids_of puts) → are_filled puts ≡ true
    → IsMade objects root op numbers a puts × All (λ p. 0 < length p.bytes) puts
made_by objects root op numbers supply puts calls a ends drawn written based filled =
    (record { calls = calls; answers = ends; drawn = drawn; written = written; based = based }, all_filled puts filled)

-- ---- what an attempt has read

pub all_known : (known : List (ℕ × Option Seen)) (calls : List Call) → list_all (is_read_known known) calls ≡ true → AreKnown known calls
all_known known [] all oid among = absurd cc
all_known known (Read o ∷ calls) all oid among = by_first (λ rest. all_known known calls rest oid) (is_some (known_at known o)) refl all
  where
    Behind : Type 0
    Behind = list_all (is_read_known known) calls ≡ true → stands_in (reads_in calls) oid ≡ true → is_some (known_at known oid) ≡ true

    by_same : is_some (known_at known o) ≡ true → (stands_in (reads_in calls) oid ≡ true → is_some (known_at known oid) ≡ true) → (b : Bool) → nat_eq o oid ≡ b → (b || stands_in (reads_in calls) oid) ≡ true → is_some (known_at known oid) ≡ true
    by_same there behind true eq found = subst (λ (n : ℕ). is_some (known_at known n) ≡ true) (eqb-true o oid eq) there
    by_same there behind false eq found = behind found

    by_first : Behind → (here : Bool) → is_some (known_at known o) ≡ here → (here && list_all (is_read_known known) calls) ≡ true → is_some (known_at known oid) ≡ true
    by_first behind true there rest = by_same there (behind rest) (nat_eq o oid) refl among
    by_first behind false there rest = absurd cc
all_known known (Drew o ∷ calls) all oid among = all_known known calls all oid among
all_known known (Wrote o ∷ calls) all oid among = all_known known calls all oid among

pub made_reads : (known : List (ℕ × Option Seen)) (objects : ℕ → Option Seen) (root : ℕ) (op : TreeOperation) (numbers : List ℕ) (supply : ℕ) (puts : List TreePut) (calls : List Call) (a : TreeAnswer) → AreKnown known calls
    → CallEnds (contents_of objects) (contents_after puts (contents_of objects)) calls root op supply (Ok (Some a))
    → drawn_in calls ≡ numbers → written_in calls ≡ oids_of puts → bases_of puts ≡ map (based_on numbers objects) (oids_of puts)
    → (m : IsMade objects root op numbers a puts) × AreKnown known m.calls
made_reads known objects root op numbers supply puts calls a reads ends drawn written based =
    (record { calls = calls; answers = ends; drawn = drawn; written = written; based = based }, reads)

pub refused_reads : (known : List (ℕ × Option Seen)) (objects : ℕ → Option Seen) (root : ℕ) (op : TreeOperation) (numbers : List ℕ) (supply : ℕ) (puts : List TreePut) (calls : List Call) (e : TreeError) (why : Refusal) (is_whole : Bool) (result : Result Attempt AllocError) → Some why ≡ refusal_of e
    → CallEnds (contents_of objects) (contents_after puts (contents_of objects)) calls root op supply (Err e) → (is_whole ≡ true → AreKnown known calls) → IfOk result (λ a. (is_whole ≡ true) × (a ≡ attempt.Refused why)) → IfOk result (HasRead known objects root op numbers)
refused_reads known objects root op numbers supply puts calls e why is_whole (Ok a) is ends reads same =
    let fails = fails_of (contents_of objects) (contents_after puts (contents_of objects)) calls root op supply e why (sym is) ends in
    let none = none_drawn (contents_of objects) (contents_after puts (contents_of objects)) calls root op e why (sym is) fails in
    let r : IsRefused objects root op why = record { e = e; told = sym is; after = contents_after puts (contents_of objects); calls = calls; fails = fails; undrawn = none } in
    let has : HasRead known objects root op numbers (attempt.Refused why) = (r, reads same.0) in
    subst (HasRead known objects root op numbers) (sym same.1) has
refused_reads known objects root op numbers supply puts calls e why is_whole (Err x) is ends reads same = tt

pub want_reads : (known : List (ℕ × Option Seen)) (objects : ℕ → Option Seen) (root : ℕ) (op : TreeOperation) (numbers : List ℕ) (lacked : Option ℕ) (result : Result Attempt AllocError) → IfOk result (IsWant numbers lacked) → IfOk result (HasRead known objects root op numbers)
want_reads known objects root op numbers lacked (Ok (attempt.Made made)) want = absurd want
want_reads known objects root op numbers lacked (Ok (attempt.Refused why)) want = absurd want
want_reads known objects root op numbers lacked (Ok (attempt.WantsObject oid)) want = tt
want_reads known objects root op numbers lacked (Ok attempt.WantsNumber) want = absurd want
want_reads known objects root op numbers lacked (Err x) want = tt
