use Rattle.std.proofs.Common.{◌≡◌, ◌∙◌, ℕ, Result, Err, sym}
use Rattle.zb_model.specs.declared.data.Content.TheVariants.{Held}
use Rattle.zb_model.specs.declared.refusal.Refusal.{Refusal}
use Rattle.connection_view.proofs.Waits.{open_of_changeable, unread_leaves}
use Rattle.connection_view.specs.Connections.{stored_in_work, work_of}
use Rattle.connection_view.proofs.connection.Connection.put.Goals as goal

same_refusal : (r s : Refusal) → (let x : Result ℕ Refusal = Err r in x) ≡ Err s → (let y : Result (Unit {0}) Refusal = Err r in y) ≡ Err s
same_refusal r s e = cc

pub returns-in-Err-base_read-clause-reads : goal.returns-in-Err-base_read-clause-reads
returns-in-Err-base_read-clause-reads g c = λ w h n.
    record {
      read = c.load.result;
      reads = c.load.ensures.reads;
      made = c.load.ensures.makes w (open_of_changeable (work_of c.args.self.now) w h);
      leaves = unread_leaves c.load.result (λ base. stored_in_work (record { oid = c.args.oid; base = base; content = Held c.args.bytes }) w) (work_of c.args.self.now) (work_of c.load.new.self) c.base_read.result c.in-Err-base_read.refusal
          c.base_read.ensures c.in-Err-base_read.is c.load.ensures.work;
      refused = λ r e. same_refusal c.in-Err-base_read.refusal r (sym c.in-Err-base_read.is ∙ c.base_read.ensures ∙ e);
    }
