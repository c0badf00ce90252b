use Rattle.mc_bank.specs.Memory.{memory_state, memory_named, memory_room, memory_site_bytes}
use Rattle.mc_bank.specs.declared.memory.MemBank.{MemBank}
use Rattle.mc_manager.specs.ManagerState.{BankView, ManagerFits}
use Rattle.mc_card_tests.proofs.managers.tests.first_missing.Given as goal

-- what a bank in memory shows
abbrev memory_view : MemBank → BankView
memory_view bank = record { state = memory_state bank; named = memory_named bank; room = memory_room bank; site_bytes = memory_site_bytes bank }

-- the manager fits the bank after each load
abbrev pub invariant-loop-name : goal.invariant-loop-name
invariant-loop-name g l = record { fits : ManagerFits (memory_view l.bank) l.manager }

abbrev pub invariant-loop-name-2 : goal.invariant-loop-name-2
invariant-loop-name-2 g l = record { fits : ManagerFits (memory_view l.bank) l.manager }
