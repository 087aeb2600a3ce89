-- The faults that stop a run, and the statuses that hand them on.
use Rattle.outer_io.specs.declared.sink.PutFault.{PutFault}
use Rattle.outer_io.specs.declared.sink.PutFault.TheVariants as put
use Rattle.output_format.specs.declared.fault.Fault.{Fault}
use Rattle.output_format.specs.declared.fault.Fault.TheVariants.{ReadFault, WriteFault, NoMemory}
use Rattle.output_format.specs.declared.status.Status.{Status}
use Rattle.output_format.specs.declared.status.Status.TheVariants as status

abbrev pub fault_of : PutFault → Fault
fault_of put.Failed = WriteFault
fault_of put.NoMemory = NoMemory

abbrev pub status_of_fault : Fault → Status
status_of_fault ReadFault = status.ReadFault
status_of_fault WriteFault = status.WriteFault
status_of_fault NoMemory = status.NoMemory
