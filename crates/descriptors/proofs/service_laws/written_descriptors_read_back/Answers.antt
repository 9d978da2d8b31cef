use Rattle.descriptors.proofs.ServiceEntries.{languages-read_back, service_list-reads_back}
use Rattle.descriptors.proofs.service_laws.written_descriptors_read_back.Goals as goal

pub returns-clause-languages : goal.returns-clause-languages
returns-clause-languages c = languages-read_back

pub returns-clause-service_list : goal.returns-clause-service_list
returns-clause-service_list c = service_list-reads_back
