use Rattle.std.proofs.Common.{arith}
use Rattle.component_image.specs.Laws.Opened.{calm-there, opened-images, opened-rests, settled-there}
use Rattle.component_image.proofs.laws.new_component_keeps_the_table.Goals as goal

pub returns-clause-images : goal.returns-clause-images
returns-clause-images c pages log table s t n now new frozen lists rest may calm within told =
    opened-images pages log table s t n 1 now rest new frozen lists may (omega arith) within told
    (λ m from to image is opened. calm-there pages log table s t n 1 now rest new frozen lists may (omega arith) within told calm m from to image is)

pub returns-clause-rests : goal.returns-clause-rests
returns-clause-rests c pages log table s t n now new frozen lists rest may calm within told later =
    opened-rests pages log table s t n 1 now rest new frozen lists may (omega arith) within told
    (λ m from to image is opened. calm-there pages log table s t n 1 now rest new frozen lists may (omega arith) within told calm m from to image is)
    later (settled-there pages log table s t n 1 now rest new frozen lists may (omega arith) within told calm)
