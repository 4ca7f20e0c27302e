-- The fault of an entry that corresponds to a fault of the pool.
use Rattle.const_pool.specs.declared.builder.PoolFault.{PoolFault}
use Rattle.const_pool.specs.declared.builder.PoolFault.TheVariants as pool_fault
use Rattle.pool_entries.specs.declared.fault.EntryFault.{EntryFault}
use Rattle.pool_entries.specs.declared.fault.EntryFault.TheVariants as fault

abbrev pub fault_of : PoolFault → EntryFault
fault_of pool_fault.PoolFull = fault.PoolFull
fault_of pool_fault.Memory = fault.Memory
