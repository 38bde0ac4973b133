-- The blank of a kind of cell of one's own.
use Rattle.store_cases.specs.declared.pixel.Pixel.{Pixel}

abbrev pub black : Pixel
black = record { red = 0; green = 0; blue = 0 }
