use Rattle.buffer_objects.proofs.Keys.{names_both, bind_both, bytes_keep, bytes_live, without_keeps, without_live}
use Rattle.buffer_objects.proofs.laws.keys_name_one_object.Goals as goal

pub returns-clause-names : goal.returns-clause-names
returns-clause-names c = names_both

pub returns-clause-bound : goal.returns-clause-bound
returns-clause-bound c = bind_both

pub returns-clause-bytes : goal.returns-clause-bytes
returns-clause-bytes c b bound key bytes live = bytes_keep b bound bytes live key

pub returns-clause-alive : goal.returns-clause-alive
returns-clause-alive c = bytes_live

pub returns-clause-deleted : goal.returns-clause-deleted
returns-clause-deleted c = without_keeps

pub returns-clause-gone : goal.returns-clause-gone
returns-clause-gone c = without_live
