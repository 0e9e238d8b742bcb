-- Each older kind is proved to be the newer one completed, on lists and on files.
use Rattle.demands.specs.Completed.{Completes}
use Rattle.demands.proofs.Completed.{demands_alike}
use Rattle.demands.proofs.CompletedFiles.{demands_files}
use Rattle.demands.proofs.CompletedCorridor.{corridor_alike}
use Rattle.demands.proofs.CompletedCorridorFiles.{corridor_files}
use Rattle.demands.proofs.CompletedRecord.{full_fits, record_completes}
use Rattle.demands.proofs.CompletedRecordFiles.{record_files}

pub completes : Completes
completes =
    record {
      demands_on_lists = demands_alike;
      demands_on_files = demands_files;
      corridor_on_lists = λ corridor demands fits. corridor_alike corridor fits demands;
      corridor_on_files = corridor_files;
      record_on_lists = record_completes;
      record_on_files = record_files;
      right_exits_fit = full_fits;
    }
