-- The worked rows are the demand.
use Rattle.std.proofs.Common.{refl}
use Rattle.serve_model.specs.Rows.{AreRows}

pub rows_are : AreRows
rows_are = (
  record { small = refl; large = refl },
  (
    record { small = refl; large = refl },
    (
      record { small = refl; large = refl },
      (
        record { small = refl; large = refl },
        (
          record { small = refl; large = refl },
          (
            record { small = refl; large = refl },
            (
              record { small = refl; large = refl },
              (
                record { small = refl; large = refl },
                (record { small = refl; large = refl }, (record { small = refl; large = refl }, tt)),
              ),
            ),
          ),
        ),
      ),
    ),
  ),
)
