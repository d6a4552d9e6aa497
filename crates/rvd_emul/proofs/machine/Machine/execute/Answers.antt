use Rattle.std.proofs.Common.{refl, sym, Result, Ok, Err}
use Rattle.std.specs.Result.{OnOk}
use Rattle.std.specs.declared.alloc.AllocError.{AllocError}
use Rattle.rvd_emul.specs.declared.classes.Class.TheVariants.{Upper, Jump, Branch, Load, Store, Immediate, Register, MemoryOrdering, Environment}
use Rattle.rvd_emul.specs.Effects.{effect, effect_of}
use Rattle.rvd_emul.specs.Machine.{IsLike}
use Rattle.rvd_emul.proofs.Alike.{does, does_like}
use Rattle.rvd_emul.proofs.Causes.{load_lies, store_fits}
use Rattle.rvd_emul.proofs.machine.Machine.execute.Goals as goal

pub load-requires : goal.load-requires
load-requires c = load_lies c.args.program.now c.args.self.now c.args.insn.now c.requires (sym c.in-Load.ensures)

pub store-requires : goal.store-requires
store-requires c = store_fits c.args.program.now c.args.self.now c.args.insn.now c.requires (sym c.in-Store.ensures)

pub returns-in-Store : goal.returns-in-Store
returns-in-Store c = stored (c.store.result) c.store.ensures
  where
    stored : (r : Result (Unit {0}) AllocError) → OnOk r (IsLike (effect_of c.args.self.now c.args.insn.now Store 0) c.store.new.self) → OnOk r (IsLike (effect c.args.program.now c.args.self.now c.args.insn.now) c.store.new.self)
    stored (Ok u) like = does_like c.args.program.now c.args.self.now c.store.new.self c.args.insn.now Store (sym c.in-Store.ensures) like
    stored (Err e) like = like

pub returns-in-Upper : goal.returns-in-Upper
returns-in-Upper c = does c.args.program.now c.args.self.now c.set_upper.new.self c.args.insn.now Upper (sym c.in-Upper.ensures) c.set_upper.ensures

pub returns-in-Jump : goal.returns-in-Jump
returns-in-Jump c = does c.args.program.now c.args.self.now c.jump.new.self c.args.insn.now Jump (sym c.in-Jump.ensures) c.jump.ensures

pub returns-in-Branch : goal.returns-in-Branch
returns-in-Branch c = does c.args.program.now c.args.self.now c.branch-self.new.self c.args.insn.now Branch (sym c.in-Branch.ensures) c.branch-self.ensures

pub returns-in-Load : goal.returns-in-Load
returns-in-Load c = does c.args.program.now c.args.self.now c.load.new.self c.args.insn.now Load (sym c.in-Load.ensures) c.load.ensures

pub returns-in-Immediate : goal.returns-in-Immediate
returns-in-Immediate c = does c.args.program.now c.args.self.now c.compute_immediate.new.self c.args.insn.now Immediate (sym c.in-Immediate.ensures) c.compute_immediate.ensures

pub returns-in-Register : goal.returns-in-Register
returns-in-Register c = does c.args.program.now c.args.self.now c.compute.new.self c.args.insn.now Register (sym c.in-Register.ensures) c.compute.ensures

pub returns-in-MemoryOrdering : goal.returns-in-MemoryOrdering
returns-in-MemoryOrdering c = does c.args.program.now c.args.self.now c.pass.new.self c.args.insn.now MemoryOrdering (sym c.in-MemoryOrdering.ensures) c.pass.ensures

pub returns-in-Environment : goal.returns-in-Environment
returns-in-Environment c = does c.args.program.now c.args.self.now c.args.self.now c.args.insn.now Environment (sym c.in-Environment.ensures) refl
