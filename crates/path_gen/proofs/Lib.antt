mod Pieces
mod Places
mod Holes
mod Faces
mod Pockets
