-- What a hub keeps of the open pack, from call to call.
use Rattle.std.proofs.Common.{◌≡◌, ℕ, ◌+◌, ◌<◌, ◌≤◌, List, [], ◌∷◌, ◌++◌, length, Option, Some, None, true, refl, sym, ap, subst, ◌∙◌, append_assoc, arith}
use Rattle.std.specs.Prelude.{IfSome}
use Rattle.std.specs.Option.{ForSome, is_some}
use Rattle.std.proofs.lemmas.List.{length-append}
use Rattle.std.proofs.lemmas.List.Sums.{sum_by-append}
use Rattle.std.proofs.lemmas.Option.{same_Some}
use Rattle.zb_base.specs.Lists.{each_more}
use Rattle.zb_model.specs.declared.data.Transaction.{Transaction}
use Rattle.zb_model.specs.Packs.{IsCopyOf}
use Rattle.zb_model.specs.Stores.{BegunPack, KeepsBegun, StoreState}
use Rattle.pack_reach.specs.Marking.{MarkerState, MayMark}
use Rattle.zodb_core.specs.declared.journal.JournalEntry.{JournalEntry}
use Rattle.zodb_core.specs.declared.journal.JournalEntry.TheVariants as journal
use Rattle.zodb_core.specs.declared.open_pack.HubCopying.{HubCopying}
use Rattle.zodb_core.specs.declared.open_pack.HubPack.{HubPack}
use Rattle.zodb_core.specs.HubState.{IsPackAt, IsWithin, KeepsPack, tid_begun}
use Rattle.zodb_core.specs.Machine.{switches_of}
use Rattle.zodb_core.specs.PacksGoOn.{copy_more}
use Rattle.zodb_core.specs.SoundLaws.{no_switch}
use Rattle.zodb_core.specs.Steps.{changes_in_entry, changes_in_journal}

pub within_same : (pack : Option HubPack) (j k : ℕ) → k ≡ j → IsWithin pack j → IsWithin pack k
within_same pack j k same within = subst (IsWithin pack) (sym same) within

pub within_more : (pack : Option HubPack) (j k : ℕ) → j ≤ k → IsWithin pack j → IsWithin pack k
within_more None j k up within = tt
within_more (Some p) j k up within = by_copying p.copying within
  where
    by_copying : (c : Option HubCopying) → IfSome c (λ (x : HubCopying). x.entries ≤ j) → IfSome c (λ (x : HubCopying). x.entries ≤ k)
    by_copying None within = tt
    by_copying (Some x) within = omega (arith, up, within)

-- a call that leaves the list, what is begun and the journal's length
pub keeps_same : (told : Type 0) (named : List ℕ → Option (List ℕ)) (s t : StoreState) (j k : ℕ) (pack : Option HubPack) → IfSome pack (KeepsPack told named s.list s.begun s.newest j)
    → (told → t.list ≡ s.list) → KeepsBegun told s t → t.newest ≡ s.newest → k ≡ j → IfSome pack (KeepsPack told named t.list t.begun t.newest k)
keeps_same told named s t j k None keeps list begun newest same = tt
keeps_same told named s t j k (Some p) keeps list begun newest same = record {
  tid = keeps.tid;
  started = begun.tid ∙ keeps.started;
  early = subst (λ (n : ℕ). p.tid < n) (sym newest) keeps.early;
  at = λ tells.
      subst (λ (n : ℕ). IsPackAt named t.list t.begun n p p.copying) (sym same)
      (subst (λ (b : Option BegunPack). IsPackAt named t.list b j p p.copying) (sym (begun.all tells))
      (subst (λ (l : List Transaction). IsPackAt named l s.begun j p p.copying) (sym (list tells)) (keeps.at tells)));
}

-- marks may go on over a list with a later transaction behind it
may_more : (named : List ℕ → Option (List ℕ)) (list : List Transaction) (x : Transaction) (m : MarkerState) → MayMark named list m → m.tid < x.tid → MayMark named (list ++ x ∷ []) m
may_more named list x m may later = record {
  front = may.front;
  later = may.later ++ x ∷ [];
  split = ap (λ (l : List Transaction). l ++ x ∷ []) may.split ∙ append_assoc may.front may.later (x ∷ []);
  above = each_more (λ (y : Transaction). m.tid < y.tid) may.later x may.above later;
  marks = may.marks;
}

copied_for : (set_of : BegunPack → Type 0) (more : BegunPack → Type 0) (begun : Option BegunPack) → ((b : BegunPack) → begun ≡ Some b → set_of b → more b) → ForSome begun set_of → ForSome begun more
copied_for set_of more begun each is = λ b there. each b there (is b there)

-- what is copied is of the list with one more, too
at_more : (named : List ℕ → Option (List ℕ)) (list : List Transaction) (begun : Option BegunPack) (j : ℕ) (x : Transaction) (p : HubPack) (c : Option HubCopying)
    → p.marker.tid ≡ p.tid → p.tid < x.tid → IfSome c (λ (k : HubCopying). k.entries ≤ j) → ((b : BegunPack) → begun ≡ Some b → b.tid ≡ p.tid)
    → IsPackAt named list begun j p c → IsPackAt named (list ++ x ∷ []) begun (j + 1) p c
at_more named list begun j x p None same later within tid at = record { marks = may_more named list x p.marker at.marks (subst (λ (n : ℕ). n < x.tid) (sym same) later); fresh = at.fresh }
at_more named list begun j x p (Some k) same later within tid at = record {
  front = at.front;
  commits = at.commits ++ x ∷ [];
  split = ap (λ (l : List Transaction). l ++ x ∷ []) at.split ∙ append_assoc at.front at.commits (x ∷ []);
  counted = omega (arith, within, at.counted, length-append at.commits (x ∷ []));
  later = each_more (λ (y : Transaction). p.tid < y.tid) at.commits x at.later later;
  set = at.set;
  whole = at.whole;
  copied = copied_for (IsCopyOf p.marker.set list) (IsCopyOf p.marker.set (list ++ x ∷ [])) begun
      (λ b there copy. copy_more p.marker.set list x b (subst (λ (n : ℕ). n < x.tid) (sym (tid b there)) later) copy) at.copied;
}

pub tid_there : (begun : Option BegunPack) (t : ℕ) (b : BegunPack) → tid_begun begun ≡ Some t → begun ≡ Some b → b.tid ≡ t
tid_there begun t b started there = same_Some b.tid t (sym (ap tid_begun there) ∙ started)

-- a commit
pub keeps_more : (told : Type 0) (named : List ℕ → Option (List ℕ)) (s t : StoreState) (j k : ℕ) (x : Transaction) (pack : Option HubPack) → IfSome pack (KeepsPack told named s.list s.begun s.newest j)
    → IsWithin pack j → (told → t.list ≡ s.list ++ x ∷ []) → KeepsBegun told s t → t.newest ≡ x.tid → s.newest < x.tid → k ≡ j + 1 → IfSome pack (KeepsPack told named t.list t.begun t.newest k)
keeps_more told named s t j k x None keeps within list begun newest later same = tt
keeps_more told named s t j k x (Some p) keeps within list begun newest later same = record {
  tid = keeps.tid;
  started = begun.tid ∙ keeps.started;
  early = subst (λ (n : ℕ). p.tid < n) (sym newest) (omega (arith, keeps.early, later));
  at = λ tells.
      subst (λ (n : ℕ). IsPackAt named t.list t.begun n p p.copying) (sym same)
      (subst (λ (b : Option BegunPack). IsPackAt named t.list b (j + 1) p p.copying) (sym (begun.all tells))
      (subst (λ (l : List Transaction). IsPackAt named l s.begun (j + 1) p p.copying) (sym (list tells))
      (at_more named s.list s.begun j x p p.copying keeps.tid (omega (arith, keeps.early, later)) within (λ b there. tid_there s.begun p.tid b keeps.started there) (keeps.at tells))));
}

-- a finish of what was voted
pub keeps_finished : (told : Type 0) (named : List ℕ → Option (List ℕ)) (s t : StoreState) (j k : ℕ) (voted : Option Transaction) (pack : Option HubPack) → IfSome pack (KeepsPack told named s.list s.begun s.newest j)
    → IsWithin pack j → is_some voted ≡ true → (told → ForSome voted (λ x. t.list ≡ s.list ++ x ∷ [])) → KeepsBegun told s t → ForSome voted (λ x. t.newest ≡ x.tid) → ForSome voted (λ x. s.newest < x.tid) → k ≡ j + 1
    → IfSome pack (KeepsPack told named t.list t.begun t.newest k)
keeps_finished told named s t j k None pack keeps within some list begun newest later same = absurd cc
keeps_finished told named s t j k (Some x) pack keeps within some list begun newest later same =
    keeps_more told named s t j k x pack keeps within (λ tells. list tells x refl) begun (newest x refl) (later x refl) same

-- ---- what it counts of the journal, with one commit more

pub counted_more : (changes count n tid : ℕ) (oids : List ℕ) (one entries : List JournalEntry) → changes ≡ changes_in_journal one → count ≡ length oids → entries ≡ one ++ journal.Commit n tid oids ∷ []
    → changes + count ≡ changes_in_journal entries
counted_more changes count n tid oids one entries before some same =
    omega (arith, before, some, ap changes_in_journal same, sum_by-append changes_in_entry one (journal.Commit n tid oids ∷ []))

pub switched_more : (switches n tid : ℕ) (oids : List ℕ) (one entries : List JournalEntry) → switches ≡ switches_of one → entries ≡ one ++ journal.Commit n tid oids ∷ [] → switches ≡ switches_of entries
switched_more switches n tid oids one entries before same = before ∙ sym (ap switches_of same ∙ no_switch one n tid oids)
