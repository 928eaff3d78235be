use Rattle.std.proofs.Common.{refl}
use Rattle.edge_io.proofs.CountsLaws.{faults-counts_after, longs-counts_after}
use Rattle.edge_io.proofs.file_shelf.FileShelfShelf.TheImpl.Goals as goal

pub take-tells : goal.take-tells
take-tells g c = record {
  told = tt;
  within = c.ensures.within;
  nothing = c.ensures.nothing;
  failed = faults-counts_after _ _ _ c.ensures.after;
  long = longs-counts_after _ _ _ c.ensures.after;
  long_only = tt;
  long_never = tt;
  same_files = refl;
  still_allowed = λ _ _ h. h;
  not_more_allowed = λ _ _ h. h;
  faults_stay = c.ensures.faults_stay;
  longs_stay = c.ensures.longs_stay;
}
