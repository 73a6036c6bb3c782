-- The rules of merging of the BTrees package. What they make is never empty: it is a record.
use Rattle.std.proofs.Common.{◌≡◌, ℕ, ◌<◌, List, length, Option, Some, None, Result, Ok, Err, subst, arith}
use Rattle.pickle_graph.specs.Graph.{Graph}
use Rattle.zb_record.specs.declared.error.RecordError.{RecordError}
use Rattle.zb_record.specs.Records.{record_of}
use Rattle.zb_model.specs.declared.refusal.Why.{Why}
use Rattle.zb_model.specs.Rules.{MergeRules}
use Rattle.zb_resolve.specs.declared.state.State.{State}
use Rattle.zb_resolve.specs.Classes.{ClassRule, rule_of}
use Rattle.zb_resolve.specs.States.{readable, are_alike}
use Rattle.zb_resolve.specs.Answers.{◌>>=◌}
use Rattle.zb_resolve.specs.Resolution.{merged_states, found_state, unless_mixed, object_bytes, written_object, merged_if, merged_records, has_stock_rule, stock_merged}

ok_is : {A : Type 0} (a b : A) → ◌≡◌ {A = Result A Why} (Ok a) (Ok b) → a ≡ b
ok_is a b e = cc

by_state : (class : Graph) (found : Result Graph Why) (bytes : List ℕ) → (found >>= (λ state. written_object class state)) ≡ Ok bytes → 0 < length bytes
by_state class (Err e) bytes h = cc
by_state class (Ok state) bytes h = subst (λ (b : List ℕ). 0 < length b) (ok_is (object_bytes class state) bytes h) (omega arith)

by_states : (rule : ClassRule) (class : Graph) (a b c : Result State Why) (bytes : List ℕ) → (a >>= (λ was. b >>= (λ mine. c >>= (λ theirs. unless_mixed (are_alike was mine theirs) (merged_states rule was mine theirs) >>= (λ state. written_object class state))))) ≡ Ok bytes → 0 < length bytes
by_states rule class (Err e) b c bytes h = cc
by_states rule class (Ok was) (Err e) c bytes h = cc
by_states rule class (Ok was) (Ok mine) (Err e) bytes h = cc
by_states rule class (Ok was) (Ok mine) (Ok theirs) bytes h = by_state class (unless_mixed (are_alike was mine theirs) (merged_states rule was mine theirs)) bytes h

by_rule : (o : Option ClassRule) (class : Graph) (old committed stored bytes : List ℕ) → merged_if o class old committed stored ≡ Ok bytes → 0 < length bytes
by_rule None class old committed stored bytes h = cc
by_rule (Some rule) class old committed stored bytes h =
    by_states rule class (found_state (readable rule old)) (found_state (readable rule committed)) (found_state (readable rule stored)) bytes h

by_record : (r : Result (Graph × Graph) RecordError) (old committed stored bytes : List ℕ) → merged_records r old committed stored ≡ Ok bytes → 0 < length bytes
by_record (Err e) old committed stored bytes h = cc
by_record (Ok object) old committed stored bytes h = by_rule (rule_of object.0) object.0 old committed stored bytes h

pub stock_filled : (old committed stored bytes : List ℕ) → stock_merged old committed stored ≡ Ok bytes → 0 < length bytes
stock_filled old committed stored bytes h = by_record (record_of stored) old committed stored bytes h

abbrev pub stock_rules : MergeRules
stock_rules = record { has_rule = has_stock_rule; merged = stock_merged; filled = stock_filled }
